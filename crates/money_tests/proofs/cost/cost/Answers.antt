use Rattle.std.proofs.Common.{rules, ◌≡◌, sym, w64}
use Rattle.std.proofs.lemmas.Int.{to_z-of_z}
use Rattle.money_core.specs.AmountText.{IsDeclared}
use Rattle.money_tests.proofs.cost.cost.Goals as goal

pub cost_of-requires-clause-amount : goal.cost_of-requires-clause-amount
cost_of-requires-clause-amount c =
    rw (to_z-of_z w64 c.in-Ok.amount.1 (search rules))
    (c.amounts_bound.ensures c.args.amount.now c.in-Ok.amount.0 c.in-Ok.amount.1 (sym c.in-Ok.ensures.answer))
