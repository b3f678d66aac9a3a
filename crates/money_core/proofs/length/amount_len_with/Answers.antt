-- The parts are as long as what is printed of each.
use Rattle.std.proofs.Common.{rules, ◌≡◌, refl, length, ◌+◌, w64}
use Rattle.std.specs.Prelude.{unsigned_abs}
use Rattle.std.proofs.lemmas.Int.{to_z-of_z}
use Rattle.money_core.specs.AmountText.{minus, printed_symbol, printed_with}
use Rattle.money_core.specs.Printed.{printed_number}
use Rattle.money_core.proofs.AmountPrint.{amount_ends}
use Rattle.money_core.proofs.LengthLemmas.{length_of_amount}
use Rattle.money_core.proofs.length.amount_len_with.Goals as goal
use Rattle.money_core.proofs.length.amount_len_with.Goals.{After-minus_len}

whole : (c : After-minus_len) → c.symbol_len-symbol.result + c.gap_len.result + c.minus_len.result
    + c.number_len-number.result ≡ length (printed_with c.args.style.now c.args.decimals c.args.quantity)
whole c =
    let back = to_z-of_z w64 c.args.quantity (search rules) in
    let style = c.args.style.now in
    let symbol : c.symbol_len-symbol.result ≡ length (printed_symbol style.symbol) =
    rw (c.as_bytes.ensures.value, c.as_str.ensures) at c.symbol_len-symbol.ensures.value in
    let sign : c.minus_len.result ≡ length (minus c.args.quantity) = rw back at c.minus_len.ensures.value in
    let number : c.number_len-number.result
    ≡ length (printed_number style.mark style.grouped c.args.decimals (unsigned_abs c.args.quantity)) =
    rw (c.unsigned_abs.ensures.value, back) at c.number_len-number.ensures.value style.mark in
    rw (length_of_amount style c.args.decimals c.args.quantity, symbol, sign, number, c.gap_len.ensures.value) refl

pub returns-clause-value : goal.returns-clause-value
returns-clause-value c = whole c

pub returns-clause-bound : goal.returns-clause-bound
returns-clause-bound c =
    rw (whole c) (amount_ends c.args.style.now c.args.decimals c.args.quantity c.requires.symbol c.requires.size).short
