-- How long printed numbers and amounts are, part by part.
use Rattle.std.proofs.Common.{◌≡◌, ◌≤◌, ◌<◌, ◌+◌, ◌/◌, ◌%◌, ◌^◌, ◌++◌, ℕ, ℤ, List, [], ◌∷◌, Bool, length, arith, refl}
use Rattle.std.proofs.Common.{decimal, length-append, inl, inr}
use Rattle.std.specs.Prelude.{unsigned_abs}
use Rattle.std.proofs.lemmas.Bool.{cases_Bool, ne_eqb}
use Rattle.std.proofs.lemmas.Fmt.{decimal_digit, decimal_step}
use Rattle.money_core.specs.declared.mark.Mark.{Mark}
use Rattle.money_core.specs.declared.style.Style.{Style}
use Rattle.money_core.specs.Printed.{places, grouped, printed_number, printed_fraction}
use Rattle.money_core.specs.Symbol.{in_quotes}
use Rattle.money_core.specs.AmountText.{printed_symbol, minus, gap, printed_with}
use Rattle.money_core.proofs.PrintedLemmas.{grouped_step}
use Rattle.money_core.proofs.RoundTrip.{length-places}

pub length_of_digit : (n : ℕ) → n < 10 → length (decimal n) ≡ 1
length_of_digit n h = rw (decimal_digit n h) refl

pub length_of_decimal : (n : ℕ) → 10 ≤ n → n < 2 ^ 64 → length (decimal n) ≡ length (decimal (n / 10)) + 1
length_of_decimal n h small = rw (decimal_step n h small) (length-append (decimal (n / 10)) ((48 + n % 10) ∷ []))

pub length_of_grouped : (group n : ℕ) → 1000 ≤ n → length (grouped group n) ≡ length (grouped group (n / 1000)) + 4
length_of_grouped group n h =
    rw (grouped_step group n h) (omega
    (arith, length-append (grouped group (n / 1000)) (group ∷ places 3 (n % 1000)), length-places 3 (n % 1000)))

pub length_of_fraction : (mark : Mark) (groups : Bool) (decimals q : ℕ) → 0 < decimals
    → length (printed_fraction mark groups decimals q) ≡ decimals + 1
length_of_fraction mark groups decimals q h =
    rw (ne_eqb decimals 0 (omega arith)) (omega (arith, length-places decimals (q % 10 ^ decimals)))

pub length_of_quoted : (symbol : List ℕ) → length (in_quotes symbol) ≡ length symbol + 2
length_of_quoted symbol = omega (arith, length-append symbol (34 ∷ []))

-- an amount is as long as its parts, on whichever side the symbol stands
pub length_of_amount : (style : Style) (decimals : ℕ) (q : ℤ) → length (printed_with style decimals q)
    ≡ length (printed_symbol style.symbol) + length (gap style.spaced) + length (minus q)
    + length (printed_number style.mark style.grouped decimals (unsigned_abs q))
unfolding printed_with
length_of_amount style decimals q =
    let number = printed_number style.mark style.grouped decimals (unsigned_abs q) in
    let symbol = printed_symbol style.symbol in
    let between = gap style.spaced in
    let signed = length-append (minus q) number in
    elim (cases_Bool style.left) [
      | inl left ↦ rw left (omega (
        arith,
        length-append symbol (between ++ (minus q ++ number)),
        length-append between (minus q ++ number),
        signed,
      ))
      | inr right ↦ rw right (omega (
        arith,
        length-append (minus q ++ number) (between ++ symbol),
        length-append between symbol,
        signed,
      ))
    ]
