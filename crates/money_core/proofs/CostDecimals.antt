-- The decimals of a unit cost: those up to the last that is not zero.
use Rattle.std.proofs.Common.{◌≡◌, ◌≤◌, ◌<◌, ◌+◌, ◌-◌, ◌%◌, ◌++◌, ◌==◌, ℕ, zero, suc, List, [], ◌∷◌, true, false, not}
use Rattle.std.proofs.Common.{◌||◌, ◌⊎◌, subst, length, take, drop, get_or, filter, replicate, arith, refl, ◌∙◌}
use Rattle.std.proofs.Common.{append_assoc, sym, inl, inr, max, length-take}
use Rattle.std.proofs.lemmas.Grind.{take_at_read, common_steps}
use Rattle.std.proofs.lemmas.Bool.{cases_Bool, cases_lt, and_parts, and_from, false_from_ne_true, cond-true, cond-false}
use Rattle.std.proofs.lemmas.Bool.{both_ways, or_right, eq-eqb, ne_eqb, eqb-true}
use Rattle.std.proofs.Math.Nat.{mul-add-mod_self_right}
use Rattle.std.proofs.lemmas.List.Sums.{AllPass-from_list_all}
use Rattle.money_core.specs.declared.style.Style.{Style}
use Rattle.money_core.specs.Number.{is_number, whole_part, fraction_part, fits_decimals, unit_digits, quantity}
use Rattle.money_core.proofs.ValueLemmas.{decimal_written, decimal_padded}
use Rattle.money_core.proofs.GrammarLemmas.{number_parts}
use Rattle.std.specs.List.{list_all}
use Rattle.std.specs.Char.{is_ascii_digit, digit_value}
use Rattle.std.specs.Str.Parse.{digits_value}
use Rattle.std.proofs.lemmas.Int.Digits.{digits_value_push}
use Rattle.money_core.specs.PriceReading.{significant, kept_decimals}

-- a digit after others
zero_joined : (xs : List ℕ) (b : ℕ) → (b == 48) ≡ true
    → list_all (λ c. c == 48) (xs ++ b ∷ []) ≡ list_all (λ c. c == 48) xs
zero_joined [] b h = rw h refl
zero_joined (x ∷ xs) b h = rw (zero_joined xs b h) refl

other_joined : (xs : List ℕ) (b : ℕ) → (b == 48) ≡ false → list_all (λ c. c == 48) (xs ++ b ∷ []) ≡ false
other_joined [] b h = rw h refl
other_joined (x ∷ xs) b h =
    elim (cases_Bool (x == 48)) [
      | inl here ↦ rw (here, other_joined xs b h) refl
      | inr other ↦ rw other refl
    ]

significant_zero : (xs : List ℕ) (b : ℕ) → (b == 48) ≡ true → significant (xs ++ b ∷ []) ≡ significant xs
significant_zero [] b h = rw h refl
significant_zero (x ∷ xs) b h = rw (zero_joined xs b h, significant_zero xs b h) refl

significant_other : (xs : List ℕ) (b : ℕ) → (b == 48) ≡ false → significant (xs ++ b ∷ []) ≡ length xs + 1
significant_other [] b h = rw h refl
significant_other (x ∷ xs) b h = rw (other_joined (x ∷ xs) b h, significant_other xs b h) (omega arith)

-- one more digit of a fraction
pub significant_more_zero : (xs : List ℕ) (i : ℕ) → i < length xs → get_or xs i 0 ≡ 48
    → significant (take (i + 1) xs) ≡ significant (take i xs)
significant_more_zero xs i l h =
    let more = (take_at_read xs i 0 l).1 in
    rw more (significant_zero (take i xs) (get_or xs i 0) (rw h refl))

pub significant_more_other : (xs : List ℕ) (i : ℕ) → i < length xs → (get_or xs i 0 == 48) ≡ false
    → significant (take (i + 1) xs) ≡ i + 1
significant_more_other xs i l h =
    let more = (take_at_read xs i 0 l).1 in
    rw more (significant_other (take i xs) (get_or xs i 0) h ∙ omega (arith, length-take i xs))

-- where none is counted, all are zeros
significant_none : (xs : List ℕ) → significant xs ≡ 0 → list_all (λ c. c == 48) xs ≡ true
significant_none [] h = refl
significant_none (x ∷ xs) h =
    elim (cases_Bool (list_all (λ c. c == 48) (x ∷ xs))) [
      | inl all ↦ all
      | inr other ↦ absurd (let e : significant xs + 1 ≡ 0 =
          sym (cond-false (list_all (λ c. c == 48) (x ∷ xs)) 0 (significant xs + 1) other) ∙ h in omega (arith, e))
    ]

-- the last that is counted is not zero
pub significant_last : (xs : List ℕ) (j : ℕ) → significant xs ≡ j + 1
    → (j < length xs) × ((get_or xs j 0 == 48) ≡ false)
significant_last [] j h = absurd (omega (arith, h))
significant_last (x ∷ xs) j h =
    elim (cases_Bool (list_all (λ c. c == 48) (x ∷ xs))) [
      | inl all ↦ absurd (let e : 0 ≡ j + 1 =
          sym (cond-true (list_all (λ c. c == 48) (x ∷ xs)) 0 (significant xs + 1) all) ∙ h in omega (arith, e))
      | inr other ↦ let e : significant xs + 1 ≡ j + 1 =
          sym (cond-false (list_all (λ c. c == 48) (x ∷ xs)) 0 (significant xs + 1) other) ∙ h in behind j
          (omega (arith, e)) other (λ i k. significant_last xs i k)
    ]
  where
    behind : (j : ℕ) → significant xs ≡ j → list_all (λ c. c == 48) (x ∷ xs) ≡ false
        → ((i : ℕ) → significant xs ≡ i + 1 → (i < length xs) × ((get_or xs i 0 == 48) ≡ false))
        → (j < length (x ∷ xs)) × ((get_or (x ∷ xs) j 0 == 48) ≡ false)
    behind zero e other rest = (
      omega arith,
      false_from_ne_true (x == 48)
          (λ here. both_ways (list_all (λ c. c == 48) (x ∷ xs)) other (and_from _ _ here (significant_none xs e))),
    )
    behind (suc i) e other rest = let last = rest i (e ∙ omega arith) in (omega (arith, last.0), last.1)

-- where all after a place are zeros, no more are counted
pub significant_least : (xs : List ℕ) (n : ℕ) → list_all (λ c. c == 48) (drop n xs) ≡ true → significant xs ≤ n
significant_least [] n h = omega arith
significant_least (x ∷ xs) zero h = rw h (omega arith)
significant_least (x ∷ xs) (suc n) h =
    let rest = significant_least xs n h in
    elim (cases_Bool (list_all (λ c. c == 48) (x ∷ xs))) [
      | inl all ↦ rw all (omega arith)
      | inr other ↦ rw other (omega (arith, rest))
    ]

-- and where no more are counted, all after are zeros
pub significant_fits : (xs : List ℕ) (n : ℕ) → significant xs ≤ n → list_all (λ c. c == 48) (drop n xs) ≡ true
significant_fits [] zero h = refl
significant_fits [] (suc n) h = refl
significant_fits (x ∷ xs) zero h =
    elim (cases_Bool (list_all (λ c. c == 48) (x ∷ xs))) [
      | inl all ↦ all
      | inr other ↦ absurd (let e : significant xs + 1 ≤ 0 =
          subst (λ (n : ℕ). n ≤ 0) (cond-false (list_all (λ c. c == 48) (x ∷ xs)) 0 (significant xs + 1) other) h in
          omega (arith, e))
    ]
significant_fits (x ∷ xs) (suc n) h =
    elim (cases_Bool (list_all (λ c. c == 48) (x ∷ xs))) [
      | inl all ↦ significant_fits xs n
          (let none = significant_least xs 0 (and_parts (x == 48) _ all).1 in omega (arith, none))
      | inr other ↦ significant_fits xs n
          (let e : significant xs + 1 ≤ suc n =
          subst (λ (m : ℕ). m ≤ suc n) (cond-false (list_all (λ c. c == 48) (x ∷ xs)) 0 (significant xs + 1) other) h in
          omega (arith, e))
    ]

-- after those that are counted stand zeros
pub significant_beyond : (xs : List ℕ) (j : ℕ) → significant xs ≤ j → j < length xs → get_or xs j 0 ≡ 48
significant_beyond [] j h l = absurd (omega arith)
significant_beyond (x ∷ xs) j h l =
    elim (cases_Bool (list_all (λ c. c == 48) (x ∷ xs))) [
      | inl all ↦ each_zero (x ∷ xs) all j l
      | inr other ↦ let e : significant xs + 1 ≤ j =
          subst (λ (n : ℕ). n ≤ j) (cond-false (list_all (λ c. c == 48) (x ∷ xs)) 0 (significant xs + 1) other) h in
          behind j e l (λ i k m. significant_beyond xs i k m)
    ]
  where
    each_zero : (ys : List ℕ) → list_all (λ c. c == 48) ys ≡ true → (j : ℕ) → j < length ys → get_or ys j 0 ≡ 48
    each_zero ys all j l = eqb-true (get_or ys j 0) 48 (AllPass-from_list_all (λ c. c == 48) ys all j 0 l)

    behind : (j : ℕ) → significant xs + 1 ≤ j → j < length (x ∷ xs)
        → ((i : ℕ) → significant xs ≤ i → i < length xs → get_or xs i 0 ≡ 48) → get_or (x ∷ xs) j 0 ≡ 48
    behind zero e l rest = absurd (omega (arith, e))
    behind (suc i) e l rest = rest i (omega (arith, e)) (omega (arith, l))

-- the last digit of a quantity with decimals
last_digit : (whole fraction : List ℕ) (j : ℕ)
    → digits_value 10 (unit_digits (j + 1) whole fraction) % 10
    ≡ digit_value (get_or (fraction ++ replicate (j + 1) 48) j 0) % 10
last_digit whole fraction j =
    let zs = fraction ++ replicate (j + 1) 48 in
    let inside : j < length zs = grind (arith, common_steps) in
    let more = (take_at_read zs j 0 inside).1 in
    rw (more, ← append_assoc, digits_value_push 10 (filter is_ascii_digit whole ++ take j zs) (get_or zs j 0))
    (mul-add-mod_self_right (digits_value 10 (filter is_ascii_digit whole ++ take j zs)) 10
    (digit_value (get_or zs j 0)))

digit_not_zero : (b : ℕ) → is_ascii_digit b ≡ true → (b == 48) ≡ false → (digit_value b % 10 == 0) ≡ false
digit_not_zero b h k = grind (arith, common_steps)

-- a digit that is counted last is the quantity's last
pub counted_last : (whole fraction : List ℕ) (j : ℕ) → list_all is_ascii_digit fraction ≡ true
    → significant fraction ≡ j + 1 → (digits_value 10 (unit_digits (j + 1) whole fraction) % 10 == 0) ≡ false
counted_last whole fraction j digits h =
    let last = significant_last fraction j h in
    let digit : is_ascii_digit (get_or fraction j 0) ≡ true =
    AllPass-from_list_all is_ascii_digit fraction digits j 0 last.0 in
    rw (last_digit whole fraction j, sym (decimal_written fraction (j + 1) j last.0))
    (digit_not_zero (get_or fraction j 0) digit last.1)

-- a digit after those that are counted is zero
pub uncounted_last : (whole fraction : List ℕ) (j : ℕ) → significant fraction ≤ j
    → (digits_value 10 (unit_digits (j + 1) whole fraction) % 10 == 0) ≡ true
uncounted_last whole fraction j h =
    rw (last_digit whole fraction j, at (cases_lt j (length fraction))) refl
  where
    at : (j < length fraction) ⊎ (length fraction ≤ j) → get_or (fraction ++ replicate (j + 1) 48) j 0 ≡ 48
    at (inl inside) = sym (decimal_written fraction (j + 1) j inside) ∙ significant_beyond fraction j h inside
    at (inr past) = sym (decimal_padded fraction (j + 1) j past (omega arith))

-- What is read is kept without zeros at its end, past the declared decimals.
pub kept_is_kept : (style : Style) (number : List ℕ) → is_number style.mark number ≡ true
    → ((kept_decimals style number == style.decimals)
    || not (quantity style.mark (kept_decimals style number) number % 10 == 0)) ≡ true
kept_is_kept style number h =
    let d = style.decimals in
    let whole = whole_part style.mark number in
    let fraction = fraction_part style.mark number in
    let digits = (number_parts style.mark number h).1 in
    elim (cases_lt d (significant fraction)) [
      | inl more ↦
          let j = significant fraction - 1 in
          let e : significant fraction ≡ j + 1 = omega (arith, more) in
          let k : max d (significant fraction) ≡ j + 1 = omega (arith, more) in
          rw (k, counted_last whole fraction j digits e) (or_right _ true refl)
      | inr few ↦
          let k : max d (significant fraction) ≡ d = omega (arith, few) in
          rw (k, eq-eqb d d refl) refl
    ]

-- A number with decimals that are kept so is kept with these.
pub kept_again : (style : Style) (number : List ℕ) (decimals : ℕ) → style.decimals ≤ decimals
    → fits_decimals decimals (fraction_part style.mark number) ≡ true
    → ((decimals == style.decimals) || not (quantity style.mark decimals number % 10 == 0)) ≡ true
    → kept_decimals style number ≡ decimals
kept_again style number decimals declared fits kept =
    let d = style.decimals in
    let whole = whole_part style.mark number in
    let fraction = fraction_part style.mark number in
    let few = significant_least fraction decimals fits in
    elim (cases_lt (max d (significant fraction)) decimals) [
      | inr all ↦ omega (arith, few, all, declared)
      | inl less ↦
          let j = decimals - 1 in
          let e : decimals ≡ j + 1 = omega (arith, less) in
          let zero_last : (quantity style.mark decimals number % 10 == 0) ≡ true =
          rw e (uncounted_last whole fraction j (omega (arith, less))) in
          let other : (decimals == d) ≡ false = ne_eqb decimals d (λ same. omega (arith, less, same)) in
          absurd (let k = rw (other, zero_last) at kept in cc)
    ]
