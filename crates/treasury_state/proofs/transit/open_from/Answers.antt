use Rattle.std.proofs.Common.{◌≡◌, ◌-ℤ◌, ◌≤ℤ◌, ℤ, pos, arith, rules, ap, sym, true, false, ◌∙◌, FitsSigned, w64, to_z}
use Rattle.std.proofs.Common.{of_z}
use Rattle.std.specs.Prelude.{int_le}
use Rattle.std.proofs.lemmas.Int.{ints, to_z-of_z}
use Rattle.money_core.proofs.TestLemmas.{le_from_int_le}
use Rattle.treasury_state.specs.declared.transfer.Part.{Part}
use Rattle.treasury_state.specs.Transfer.{sum_of_parts, received_by}
use Rattle.treasury_state.proofs.PartLemmas.{all_positive, sum_low, received_low, received_high, open_without}
use Rattle.treasury_state.proofs.PartLemmas.{open_with}
use Rattle.treasury_state.proofs.transit.open_from.Goals as goal

pub overflow_sub-open : goal.overflow_sub-open
overflow_sub-open c =
    let t = c.args.transfer.now in
    let each = all_positive t.day t.parts c.requires.fair.marked.parts.each in
    let low = received_low t.parts c.args.day each in
    let high = received_high t.parts c.args.day each in
    let within = le_from_int_le (sum_of_parts t.parts) t.qty c.requires.fair.marked.parts.within in
    let by : c.received_by.result ≡ received_by t.parts c.args.day =
    c.received_by.ensures ∙ ap (λ ps. received_by ps c.args.day) c.items.ensures in
    let qty = to_z-of_z w64 t.qty (search rules) in
    omega (arith, ints)

-- the difference fits, as what was received is at most the amount
fits_less : (q b : ℤ) → FitsSigned w64 q → pos 0 ≤ℤ b → b ≤ℤ q → FitsSigned w64 (q -ℤ b)
fits_less q b fits low high = omega (arith, ints)

fits_twice : (q b r : ℤ) → FitsSigned w64 q → pos 0 ≤ℤ b → b ≤ℤ q → pos 0 ≤ℤ r → r ≤ℤ q → FitsSigned w64 ((q -ℤ b) -ℤ r)
fits_twice q b r fits low high down up = omega (arith, ints)

pub overflow_sub-result : goal.overflow_sub-result
overflow_sub-result c =
    let t = c.args.transfer.now in
    let each = all_positive t.day t.parts c.requires.fair.marked.parts.each in
    let low = received_low t.parts c.args.day each in
    let high = received_high t.parts c.args.day each in
    let some = sum_low t.parts each in
    let within = le_from_int_le (sum_of_parts t.parts) t.qty c.requires.fair.marked.parts.within in
    let by : c.received_by.result ≡ received_by t.parts c.args.day =
    c.received_by.ensures ∙ ap (λ ps. received_by ps c.args.day) c.items.ensures in
    let rest = c.rest_of.ensures in
    let qty = to_z-of_z w64 t.qty (search rules) in
    let gap = to_z-of_z w64 (t.qty -ℤ c.received_by.result)
    (fits_less t.qty c.received_by.result (search rules) (omega (arith, ints)) (omega (arith, ints))) in
    let less = fits_twice t.qty c.received_by.result c.rest_of.result (search rules) (omega (arith, ints))
    (omega (arith, ints)) (omega (arith, ints)) (omega (arith, ints)) in
    omega (arith, ints)

pub returns-in-None : goal.returns-in-None
returns-in-None c =
    let t = c.args.transfer.now in
    let each = all_positive t.day t.parts c.requires.fair.marked.parts.each in
    let low = received_low t.parts c.args.day each in
    let high = received_high t.parts c.args.day each in
    let within = le_from_int_le (sum_of_parts t.parts) t.qty c.requires.fair.marked.parts.within in
    let by : c.received_by.result ≡ received_by t.parts c.args.day =
    c.received_by.ensures ∙ ap (λ ps. received_by ps c.args.day) c.items.ensures in
    let gap = to_z-of_z w64 (t.qty -ℤ c.received_by.result)
    (fits_less t.qty c.received_by.result (search rules) (omega (arith, ints)) (omega (arith, ints))) in
    let is = open_without t c.args.day c.requires.sent c.in-None.is in
    omega (arith, ints)

pub returns-else-receipt-day : goal.returns-else-receipt-day
returns-else-receipt-day c =
    let t = c.args.transfer.now in
    let each = all_positive t.day t.parts c.requires.fair.marked.parts.each in
    let low = received_low t.parts c.args.day each in
    let high = received_high t.parts c.args.day each in
    let within = le_from_int_le (sum_of_parts t.parts) t.qty c.requires.fair.marked.parts.within in
    let by : c.received_by.result ≡ received_by t.parts c.args.day =
    c.received_by.ensures ∙ ap (λ ps. received_by ps c.args.day) c.items.ensures in
    let gap = to_z-of_z w64 (t.qty -ℤ c.received_by.result)
    (fits_less t.qty c.received_by.result (search rules) (omega (arith, ints)) (omega (arith, ints))) in
    let h = c.if-receipt-day.false in
    let e : int_le c.in-Some.receipt.day.0 c.args.day.0 ≡ false = grind (arith, ints) in
    let is = open_with t c.args.day c.in-Some.receipt false c.requires.sent c.in-Some.is e in
    omega (arith, ints)

pub returns-then-receipt-day : goal.returns-then-receipt-day
returns-then-receipt-day c =
    let t = c.args.transfer.now in
    let each = all_positive t.day t.parts c.requires.fair.marked.parts.each in
    let low = received_low t.parts c.args.day each in
    let high = received_high t.parts c.args.day each in
    let some = sum_low t.parts each in
    let within = le_from_int_le (sum_of_parts t.parts) t.qty c.requires.fair.marked.parts.within in
    let by : c.received_by.result ≡ received_by t.parts c.args.day =
    c.received_by.ensures ∙ ap (λ ps. received_by ps c.args.day) c.items.ensures in
    let rest = c.rest_of.ensures in
    let gap = to_z-of_z w64 (t.qty -ℤ c.received_by.result)
    (fits_less t.qty c.received_by.result (search rules) (omega (arith, ints)) (omega (arith, ints))) in
    let less = to_z-of_z w64 ((t.qty -ℤ c.received_by.result) -ℤ c.rest_of.result)
    (fits_twice t.qty c.received_by.result c.rest_of.result (search rules) (omega (arith, ints))
    (omega (arith, ints)) (omega (arith, ints)) (omega (arith, ints))) in
    let h = c.if-receipt-day.true in
    let e : int_le c.in-Some.receipt.day.0 c.args.day.0 ≡ true = grind (arith, ints) in
    let is = open_with t c.args.day c.in-Some.receipt true c.requires.sent c.in-Some.is e in
    omega (arith, ints)
