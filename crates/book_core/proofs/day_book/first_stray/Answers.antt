use Rattle.std.proofs.Common.{Some, None, sym, ◌∙◌, subst, rules}
use Rattle.book_core.specs.Balance.{turnover}
use Rattle.book_core.specs.DayRows.{IsNextMoved}
use Rattle.book_core.proofs.NextLemmas.{below_moved, none_strays, first_strays}
use Rattle.book_core.proofs.day_book.first_stray.Goals as goal

pub returns-then-strays : goal.returns-then-strays
returns-then-strays c = sym (first_strays c.args.query.now c.args.book.now c.units.unit c.units.invariant.below
    (sym c.strays.ensures ∙ c.if-strays.true))

pub units-preserved : goal.units-preserved
units-preserved c =
    let next : IsNextMoved (λ v. turnover v c.args.book.now) c.units.unit (Some c.in-Some.next) =
    subst (IsNextMoved (λ v. turnover v c.args.book.now) c.units.unit) c.in-Some.is c.next_unit.ensures in
    record {
      small = search rules;
      below = below_moved c.args.query.now c.args.book.now c.units.unit c.in-Some.next c.units.invariant.below
          (sym c.strays.ensures ∙ c.if-strays.false) next;
    }

pub returns-in-None : goal.returns-in-None
returns-in-None c =
    let next : IsNextMoved (λ v. turnover v c.args.book.now) c.units.unit None =
    subst (IsNextMoved (λ v. turnover v c.args.book.now) c.units.unit) c.in-None.is c.next_unit.ensures in
    sym (none_strays c.args.query.now c.args.book.now c.units.unit c.units.invariant.below
    (sym c.strays.ensures ∙ c.if-strays.false) next)
