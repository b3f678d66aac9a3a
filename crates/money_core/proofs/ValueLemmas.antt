-- The value of digits that are read one by one, cut off at a limit.
use Rattle.std.proofs.Common.{◌≡◌, ◌≤◌, ◌<◌, ◌+◌, ◌*◌, ◌++◌, ℕ, List, [], ◌∷◌, true, false, length, take, get_or, min}
use Rattle.std.proofs.Common.{arith, filter, ap, ◌∙◌, append-nil, append_assoc, sym, replicate}
use Rattle.std.proofs.lemmas.Grind.{take_at_read, common_steps}
use Rattle.std.specs.Char.{is_ascii_digit, digit_value}
use Rattle.std.specs.Str.Parse.{digits_value}
use Rattle.std.proofs.lemmas.List.Elements.{filter_more}
use Rattle.std.proofs.lemmas.Int.Digits.{digits_value_push}

-- cutting off before the next digit changes nothing
pub capped_push : (v w d cap : ℕ) → w ≡ min v cap → min (w * 10 + d) cap ≡ min (v * 10 + d) cap
capped_push v w d cap e = omega arith

pub value_more_digit : (xs : List ℕ) (i v cap : ℕ) → i < length xs → is_ascii_digit (get_or xs i 0) ≡ true
    → v ≡ min (digits_value 10 (filter is_ascii_digit (take i xs))) cap
    → min (v * 10 + digit_value (get_or xs i 0)) cap
    ≡ min (digits_value 10 (filter is_ascii_digit (take (i + 1) xs))) cap
value_more_digit xs i v cap l d e =
    let more = filter_more is_ascii_digit xs i 0 l in
    let one = rw d at more in
    rw (one, digits_value_push 10 (filter is_ascii_digit (take i xs)) (get_or xs i 0))
    (capped_push (digits_value 10 (filter is_ascii_digit (take i xs))) v (digit_value (get_or xs i 0)) cap e)

pub value_more_other : (xs : List ℕ) (i v cap : ℕ) → i < length xs → is_ascii_digit (get_or xs i 0) ≡ false
    → v ≡ min (digits_value 10 (filter is_ascii_digit (take i xs))) cap
    → v ≡ min (digits_value 10 (filter is_ascii_digit (take (i + 1) xs))) cap
value_more_other xs i v cap l d e =
    let more = filter_more is_ascii_digit xs i 0 l in
    let one = rw (d, append-nil) at more in
    rw one e

pub value_more_decimal : (xs ys : List ℕ) (i v d cap : ℕ) → i < length ys → d ≡ get_or ys i 0
    → v ≡ min (digits_value 10 (xs ++ take i ys)) cap
    → min (v * 10 + digit_value d) cap ≡ min (digits_value 10 (xs ++ take (i + 1) ys)) cap
value_more_decimal xs ys i v d cap l e h =
    let more : take (i + 1) ys ≡ take i ys ++ (d ∷ []) =
    (take_at_read ys i 0 l).1 ∙ ap (λ (c : ℕ). take i ys ++ (c ∷ [])) (sym e) in
    rw (more, ← append_assoc, digits_value_push 10 (xs ++ take i ys) d)
    (capped_push (digits_value 10 (xs ++ take i ys)) v (digit_value d) cap h)

pub decimal_written : (fraction : List ℕ) (decimals i : ℕ) → i < length fraction
    → get_or fraction i 0 ≡ get_or (fraction ++ replicate decimals 48) i 0
decimal_written fraction decimals i l = grind (arith, common_steps)

pub decimal_padded : (fraction : List ℕ) (decimals i : ℕ) → length fraction ≤ i → i < decimals
    → 48 ≡ get_or (fraction ++ replicate decimals 48) i 0
decimal_padded fraction decimals i l k = grind (arith, common_steps)
