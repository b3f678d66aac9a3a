use Rattle.std.proofs.Common.{rules, w64}
use Rattle.std.specs.Prelude.{unsigned_abs}
use Rattle.std.proofs.lemmas.Int.{to_z-of_z}
use Rattle.money_core.specs.Printed.{printed_number}
use Rattle.money_core.specs.AmountText.{minus}
use Rattle.money_core.proofs.PrintedLemmas.{appended_twice}
use Rattle.money_core.proofs.amount_text.push_signed.Goals as goal

pub returns-clause-ok : goal.returns-clause-ok
returns-clause-ok c =
    let back = to_z-of_z w64 c.args.quantity (search rules) in
    let sign = rw back at c.in_ok-push_minus.ensures.ok in
    let more = rw (c.unsigned_abs.ensures.value, back) at c.in_ok-print_number.ensures.ok in
    appended_twice c.args.out.now.items c.push_minus.new.out.items c.print_number.new.out.items
    (minus c.args.quantity) (printed_number c.args.style.now.mark c.args.style.now.grouped c.args.decimals
    (unsigned_abs c.args.quantity)) sign more
