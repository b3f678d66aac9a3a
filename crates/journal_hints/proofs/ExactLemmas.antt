-- Digits without the zeros at their end, and what they read as.
use Rattle.std.proofs.Common.{◌≡◌, ◌≤◌, ◌<◌, ◌+◌, ◌-◌, ◌/◌, ◌%◌, ◌^◌, ◌++◌, ◌==◌, ℕ, zero, suc, List, [], ◌∷◌, Bool}
use Rattle.std.proofs.Common.{true, false, length, take, drop, arith, filter, replicate, refl, ap, ◌∙◌}
use Rattle.std.proofs.Common.{inl, inr, decimal, length-append, lit<}
use Rattle.std.specs.Char.{is_ascii_digit}
use Rattle.std.specs.List.{list_all}
use Rattle.std.specs.Str.Parse.{digits_value_after}
use Rattle.std.proofs.lemmas.Bool.{cases_Bool, and_parts, eqb-true, eq-eqb, ne_eqb}
use Rattle.std.proofs.lemmas.Fmt.{decimal_by_steps_wide}
use Rattle.std.proofs.lemmas.Grind.{common_steps}
use Rattle.std.proofs.lemmas.List.Folds.{list_all-append}
use Rattle.std.proofs.lemmas.Nat.{div-add-mod', mod_below}
use Rattle.std.proofs.Math.Nat.{one-le-pow, div-le_self}
use Rattle.std.proofs.Math.Seq.{take-append_seam, drop-append-add}
use Rattle.money_core.specs.declared.mark.Mark.{Mark}
use Rattle.money_core.specs.declared.mark.Mark.TheVariants.{Point, Comma}
use Rattle.money_core.specs.Mark.{decimal_byte, group_byte}
use Rattle.money_core.specs.Number.{whole_part, fraction_part}
use Rattle.money_core.specs.NumberText.{WritesQuantity}
use Rattle.money_core.specs.Printed.{places}
use Rattle.money_core.proofs.PrintedLemmas.{places_step}
use Rattle.money_core.proofs.RoundTrip.{digit_is_digit, digit_value_is, value_after_append, value_after_places}
use Rattle.money_core.proofs.RoundTrip.{all_digits_places, length-places, before_mark, one_group, ReadsAs}
use Rattle.journal_hints.specs.ExactProduct.{digit_before, without_zeros, exact_number}

-- ---- one more digit

without_zero : (xs : List ℕ) → without_zeros (xs ++ 48 ∷ []) ≡ without_zeros xs
without_zero [] = refl
without_zero (d ∷ ds) = ap (digit_before d) (without_zero ds)

with_digit : (xs : List ℕ) (e : ℕ) → (e == 48) ≡ false → without_zeros (xs ++ e ∷ []) ≡ xs ++ e ∷ []
with_digit [] e h = rw h refl
with_digit (d ∷ []) e h = rw h refl
with_digit (d ∷ x ∷ xs) e h = ap (digit_before d) (with_digit (x ∷ xs) e h)

pub zero_dropped : (k n : ℕ) → 0 < k → n % 10 ≡ 0
    → without_zeros (places k n) ≡ without_zeros (places (k - 1) (n / 10))
zero_dropped k n some nought = rw (places_step k n some, nought) (without_zero (places (k - 1) (n / 10)))

pub digits_kept : (k n : ℕ) → 0 < k → (n % 10 ≡ 0 → ⊥) → without_zeros (places k n) ≡ places k n
digits_kept k n some other =
    rw (places_step k n some) (with_digit (places (k - 1) (n / 10)) (48 + n % 10)
    (ne_eqb (48 + n % 10) 48 (λ e. other (omega arith))))

-- ---- the zeros that are dropped

padded : (xs : List ℕ) (m : ℕ) → length xs ≤ m → take (length xs) (without_zeros xs ++ replicate m 48) ≡ xs
padded [] m h = refl
padded (d ∷ ds) m h = behind (without_zeros ds) m (omega arith) (λ n l. padded ds n l)
  where
    nought : (n : ℕ) → length ds < n → ((k : ℕ) → length ds ≤ k → take (length ds) (replicate k 48) ≡ ds)
        → take (suc (length ds)) (replicate n 48) ≡ 48 ∷ ds
    nought zero l before = absurd (omega arith)
    nought (suc n) l before = ap (λ (ys : List ℕ). 48 ∷ ys) (before n (omega arith))

    behind : (rest : List ℕ) (n : ℕ) → length ds < n
        → ((k : ℕ) → length ds ≤ k → take (length ds) (rest ++ replicate k 48) ≡ ds)
        → take (suc (length ds)) (digit_before d rest ++ replicate n 48) ≡ d ∷ ds
    behind [] n l before =
        elim (cases_Bool (d == 48)) [
          | inl is ↦ let e : d ≡ 48 = eqb-true d 48 is in rw (is, e) (nought n l before)
          | inr other ↦ rw other (ap (λ (ys : List ℕ). d ∷ ys) (before n (omega arith)))
        ]
    behind (x ∷ xs) n l before = ap (λ (ys : List ℕ). d ∷ ys) (before n (omega arith))

all_kept : (p : ℕ → Bool) (xs : List ℕ) → list_all p xs ≡ true → list_all p (without_zeros xs) ≡ true
all_kept p [] h = refl
all_kept p (d ∷ ds) h =
    let parts = and_parts (p d) (list_all p ds) h in
    behind (without_zeros ds) parts.0 (all_kept p ds parts.1)
  where
    behind : (rest : List ℕ) → p d ≡ true → list_all p rest ≡ true → list_all p (digit_before d rest) ≡ true
    behind [] here there =
        elim (cases_Bool (d == 48)) [ inl is ↦ rw is refl | inr other ↦ rw (other, here) refl ]
    behind (x ∷ xs) here there = rw here there

fewer : (xs : List ℕ) → length (without_zeros xs) ≤ length xs
fewer [] = omega arith
fewer (d ∷ ds) = behind (without_zeros ds) (fewer ds)
  where
    behind : (rest : List ℕ) → length rest ≤ length ds → length (digit_before d rest) ≤ length (d ∷ ds)
    behind [] l = elim (cases_Bool (d == 48)) [ inl is ↦ rw is (omega arith) | inr other ↦ rw other (omega arith) ]
    behind (x ∷ xs) l = omega arith

-- ---- what is read

all_digits : (n : ℕ) → n < 10 ^ 64 → list_all is_ascii_digit (decimal n) ≡ true
all_digits n h =
    decimal_by_steps_wide (λ n ds. list_all is_ascii_digit ds ≡ true) (λ n l. rw (digit_is_digit n l) refl)
    (λ n ds l p. rw (list_all-append is_ascii_digit ds ((48 + n % 10) ∷ []), p, digit_is_digit (n % 10) (omega arith))
    refl) n h

value_of_digits : (n : ℕ) → n < 10 ^ 64 → digits_value_after 10 0 (decimal n) ≡ n
value_of_digits n h =
    decimal_by_steps_wide (λ n ds. digits_value_after 10 0 ds ≡ n) (λ n l. rw (digit_value_is n l) (omega arith))
    (λ n ds l p. rw (value_after_append 0 ds ((48 + n % 10) ∷ []), p, digit_value_is (n % 10) (omega arith))
    (omega arith)) n h

some_digit : (n : ℕ) → n < 10 ^ 64 → 0 < length (decimal n)
some_digit n h =
    decimal_by_steps_wide (λ n ds. 0 < length ds) (λ n l. omega arith) (λ n ds l p. rw length-append (omega arith)) n h

whole_reads : (mark : Mark) (n : ℕ) → n < 10 ^ 64 → ReadsAs (group_byte mark) (decimal_byte mark) n (decimal n)
whole_reads Point n l =
    one_group 44 46 n (decimal n) (lit< tt) (lit< tt) (all_digits n l) (some_digit n l) (value_of_digits n l)
whole_reads Comma n l =
    one_group 46 44 n (decimal n) (lit< tt) (lit< tt) (all_digits n l) (some_digit n l) (value_of_digits n l)

-- a whole part with the mark and a fraction after it, of which the zeros at the end are left out
reads_padded : (mark : Mark) (decimals n r : ℕ) (text digits : List ℕ)
    → ReadsAs (group_byte mark) (decimal_byte mark) n text → list_all is_ascii_digit digits ≡ true
    → length digits ≡ decimals → digits_value_after 10 n digits ≡ r
    → WritesQuantity mark decimals r (text ++ decimal_byte mark ∷ without_zeros digits)
reads_padded mark decimals n r text digits h all len value =
    let fraction = without_zeros digits in
    let whole_text = text ++ decimal_byte mark ∷ fraction in
    let at = before_mark (λ b. b == decimal_byte mark) text fraction (decimal_byte mark) h.unmarked
    (eq-eqb (decimal_byte mark) (decimal_byte mark) refl) in
    let whole : whole_part mark whole_text ≡ text = rw at (take-append_seam text (decimal_byte mark ∷ fraction)) in
    let rest : fraction_part mark whole_text ≡ fraction = rw at (drop_behind text fraction (decimal_byte mark)) in
    let short = fewer digits in
    record {
      form = rw (
        whole,
        rest,
        ne_eqb (length text + length fraction) 0 (omega (arith, h.some)),
        ne_eqb (length text) 0 (omega (arith, h.some)),
        h.groups,
        all_kept is_ascii_digit digits all,
      ) refl;
      decimals_fit = rw (rest, drop_past fraction decimals (omega arith)) refl;
      value = rw (
        whole,
        rest,
        (rw len at (padded digits (length digits) (omega arith))),
        value_after_append 0 (filter is_ascii_digit text) digits,
        h.value,
      ) value;
    }
  where
    drop_behind : (xs ys : List ℕ) (y : ℕ) → drop (length xs + 1) (xs ++ y ∷ ys) ≡ ys
    drop_behind xs ys y = drop-append-add xs (y ∷ ys) 1

    drop_past : (xs : List ℕ) (n : ℕ) → length xs ≤ n → drop n xs ≡ []
    drop_past xs n l = grind (arith, common_steps)

pub exact_reads : (mark : Mark) (n number : ℕ) → number < 10 ^ 64
    → WritesQuantity mark n number (exact_number mark n number)
exact_reads mark n number l =
    let some : 0 < 10 ^ n = one-le-pow n 10 (lit< tt) in
    let less = div-le_self number (10 ^ n) in
    let rest = number % 10 ^ n in
    reads_padded mark n (number / 10 ^ n) number (decimal (number / 10 ^ n)) (places n rest)
    (whole_reads mark (number / 10 ^ n) (omega arith)) (all_digits_places n rest) (length-places n rest)
    (value_after_places n (number / 10 ^ n) rest (mod_below number (10 ^ n) some) ∙ div-add-mod' number (10 ^ n))
