use Rattle.std.proofs.Common.{arith, sym, ◌∙◌}
use Rattle.book_core.proofs.ExamineLemmas.{first_fails_at, none_fails, hold_more, some_is, none_is}
use Rattle.book_core.proofs.examine.first_by_sums.Goals as goal

pub returns-then-is_some-clause-first : goal.returns-then-is_some-clause-first
returns-then-is_some-clause-first c =
    let some = some_is c.fault_at-fault.result (sym c.is_some.ensures ∙ c.if-is_some.true) in
    first_fails_at c.args.book.now c.args.places.now c.places.i _ c.fault_at-fault.result some.0 c.requires.places
    c.places-test.true c.places.invariant.held c.fault_at-fault.ensures some.1

pub returns-clause-first : goal.returns-clause-first
returns-clause-first c =
    none_fails c.args.book.now c.args.places.now c.places.i c.places-test.false c.places.invariant.held

pub places-preserved : goal.places-preserved
places-preserved c = record {
  held = hold_more c.args.book.now c.args.places.now c.places.i _ c.fault_at-fault.result c.places-test.true
      c.fault_at-fault.ensures (none_is c.fault_at-fault.result (sym c.is_some.ensures ∙ c.if-is_some.false))
      c.places.invariant.held;
  count = omega (arith, c.saturating_add-count.ensures, c.places.invariant.count);
  own = c.in_ok-own.ensures.own;
}
