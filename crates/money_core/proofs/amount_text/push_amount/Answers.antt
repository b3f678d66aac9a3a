-- The three parts are appended one after the other, and a part that fails leaves what stood before the first.
use Rattle.std.proofs.Common.{rules, w64}
use Rattle.std.proofs.lemmas.Int.{to_z-of_z}
use Rattle.money_core.specs.AmountText.{gap, printed_symbol, printed_signed, printed_with}
use Rattle.money_core.proofs.Appends.{appended_thrice, kept_behind_two}
use Rattle.money_core.proofs.PrintedLemmas.{on_err}
use Rattle.money_core.proofs.amount_text.push_amount.Goals as goal

pub returns-in_err-push_signed-clause-err : goal.returns-in_err-push_signed-clause-err
returns-in_err-push_signed-clause-err c =
    on_err _ _ (kept_behind_two c.args.out.now.items c.push_symbol.new.out.items c.push_gap.new.out.items
    c.push_signed.new.out.items _ _ c.in_ok-push_symbol.ensures.ok c.in_ok-push_gap.ensures.ok
    c.in_err-push_signed.ensures.err)

pub returns-in_err-push_symbol-2-clause-err : goal.returns-in_err-push_symbol-2-clause-err
returns-in_err-push_symbol-2-clause-err c =
    on_err _ _ (kept_behind_two c.args.out.now.items c.push_signed-else-style.new.out.items
    c.push_gap-else-style.new.out.items c.push_symbol-else-style.new.out.items _ _ c.in_ok-push_signed-2.ensures.ok
    c.in_ok-push_gap-2.ensures.ok c.in_err-push_symbol-2.ensures.err)

pub returns-in_ok-push_signed-clause-ok : goal.returns-in_ok-push_signed-clause-ok
unfolding printed_with
returns-in_ok-push_signed-clause-ok c =
    let back = to_z-of_z w64 c.args.quantity (search rules) in
    let symbolic = rw (c.as_bytes-symbol.ensures.value, c.as_str.ensures) at c.in_ok-push_symbol.ensures.ok in
    rw c.if-style.true
    (appended_thrice c.args.out.now.items c.push_symbol.new.out.items c.push_gap.new.out.items
    c.push_signed.new.out.items (printed_symbol c.args.style.now.symbol) (gap c.args.style.now.spaced)
    (printed_signed c.args.style.now c.args.decimals c.args.quantity)
    symbolic c.in_ok-push_gap.ensures.ok (rw back at c.in_ok-push_signed.ensures.ok))

pub returns-in_ok-push_symbol-2-clause-ok : goal.returns-in_ok-push_symbol-2-clause-ok
unfolding printed_with
returns-in_ok-push_symbol-2-clause-ok c =
    let back = to_z-of_z w64 c.args.quantity (search rules) in
    let symbolic = rw (c.as_bytes-symbol.ensures.value, c.as_str.ensures) at c.in_ok-push_symbol-2.ensures.ok in
    rw c.if-style.false
    (appended_thrice c.args.out.now.items c.push_signed-else-style.new.out.items c.push_gap-else-style.new.out.items
    c.push_symbol-else-style.new.out.items (printed_signed c.args.style.now c.args.decimals c.args.quantity)
    (gap c.args.style.now.spaced) (printed_symbol c.args.style.now.symbol)
    (rw back at c.in_ok-push_signed-2.ensures.ok) c.in_ok-push_gap-2.ensures.ok symbolic)
