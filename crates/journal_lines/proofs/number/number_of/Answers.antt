use Rattle.std.proofs.Common.{arith, ◌≡◌, ◌<◌, ◌≤◌, ◌+◌, ◌*◌, ◌-◌, ◌^◌, ℕ, List, true, length, take, get_or}
use Rattle.std.specs.Char.{is_ascii_digit, digit_value}
use Rattle.std.proofs.lemmas.Grind.{common_steps, pow_more}
use Rattle.std.proofs.lemmas.Int.Digits.{digits_value_more}
use Rattle.std.proofs.Math.Nat.{pow-le-pow_right}
use Rattle.std.proofs.lemmas.List.Sums.{AllPass-from_list_all}
use Rattle.journal_lines.specs.Date.{number_of}
use Rattle.journal_lines.proofs.number.number_of.Goals as goal

-- a digit's value is its distance from zero's
value_of_digit : (c : ℕ) → is_ascii_digit c ≡ true → (digit_value c ≡ c - 48) × (c - 48 < 10)
value_of_digit c h = (grind (arith, common_steps), grind (arith, common_steps))

more : (xs : List ℕ) (i n d : ℕ) → i < length xs → is_ascii_digit (get_or xs i 0) ≡ true → d ≡ get_or xs i 0 - 48
    → n ≡ number_of (take i xs) → n < 10 ^ i
    → (n * 10 + d ≡ number_of (take (i + 1) xs)) × (n * 10 + d < 10 ^ (i + 1))
more xs i n d l h e v b =
    let digit = value_of_digit (get_or xs i 0) h in
    let step = digits_value_more 10 xs i l in
    (omega (arith, step, digit.0, v, e), rw (pow_more 10 i) (omega (arith, digit.1, b, e)))

-- the digits so far write a small number
small : (n i : ℕ) → n < 10 ^ i → i < 5 → n < 10_000
small n i b short =
    let few : i ≤ 4 = omega (arith, short) in
    let most : 10 ^ i ≤ 10 ^ 4 = pow-le-pow_right (omega arith) few in
    omega (arith, b, most)

pub overflow_mul-number : goal.overflow_mul-number
overflow_mul-number c =
    let short : c.loop-digit.digit-index < 5 = omega (arith, c.loop-digit-test.true, c.requires.length) in
    let few = small c.loop-digit.number c.loop-digit.digit-index c.loop-digit.invariant.1 short in
    omega (arith, few)

pub overflow_add-number : goal.overflow_add-number
overflow_add-number c =
    let short : c.loop-digit.digit-index < 5 = omega (arith, c.loop-digit-test.true, c.requires.length) in
    let few = small c.loop-digit.number c.loop-digit.digit-index c.loop-digit.invariant.1 short in
    let digit : c.from.result ≤ 255 = omega (arith, c.from.ensures) in
    omega (arith, few, digit)

pub loop-digit-preserved : goal.loop-digit-preserved
loop-digit-preserved c =
    let xs = c.args.text.now in
    let digit : is_ascii_digit (get_or xs c.loop-digit.digit-index 0) ≡ true =
    AllPass-from_list_all is_ascii_digit xs c.requires.digits c.loop-digit.digit-index 0 c.loop-digit-test.true in
    more xs c.loop-digit.digit-index c.loop-digit.number c.from.result c.loop-digit-test.true digit c.from.ensures
    c.loop-digit.invariant.0 c.loop-digit.invariant.1
