use Rattle.std.proofs.Common.{◌++◌, [], ◌∷◌, List, sym, subst}
use Rattle.money_core.specs.declared.style.Style.{Style}
use Rattle.money_core.specs.Style.{AreStyles}
use Rattle.treasury_store.proofs.ListLemmas.{styles_taken, taken_more}
use Rattle.treasury_store.proofs.numbers.copied.Goals as goal

pub declare-requires : goal.declare-requires
declare-requires c =
    let s = c.in-Some.style.now in
    subst (λ (l : List Style). AreStyles (l ++ s ∷ [])) (sym c.unit.invariant)
    (styles_taken c.args.styles.now c.unit.unit s c.in-Some.ensures c.are_styles.ensures)

pub unit-preserved : goal.unit-preserved
unit-preserved c = taken_more c.args.styles.now c.unit.copy c.declare.new.styles c.unit.unit c.in-Some.style.now
    c.in-Some.ensures c.unit.invariant c.in_ok-declare-in-Some.ensures.ok
