use Rattle.std.proofs.Common.{rules, ◌≡◌, sym, w64}
use Rattle.std.proofs.lemmas.Int.{to_z-of_z}
use Rattle.money_core.specs.AmountText.{IsDeclared}
use Rattle.money_tests.proofs.amount_text.reprint.Goals as goal

pub print_amount-requires : goal.print_amount-requires
print_amount-requires c =
    rw (to_z-of_z w64 c.in-Ok.amount.1 (search rules))
    (c.amounts_bound.ensures c.args.text.now c.in-Ok.amount.0 c.in-Ok.amount.1 (sym c.in-Ok.ensures.answer))
