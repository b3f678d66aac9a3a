-- The first line of a text, and those after it.
use Rattle.std.proofs.Common.{◌≡◌, ◌<◌, ◌+◌, ◌-◌, ◌==◌, ℕ, List, [], ◌∷◌, Bool, true, false, cond, not, length, take}
use Rattle.std.proofs.Common.{drop, arith, refl, Some, None, position, inl, inr}
use Rattle.std.proofs.lemmas.Grind.{common_steps}
use Rattle.std.proofs.lemmas.Bool.{cases_Bool, ltb-true, ltb-false, ne_eqb}
use Rattle.std.proofs.lemmas.List.Splits.{slice_split_first, slice_split_none}
use Rattle.std.proofs.lemmas.List.Sums.{prefix_len-le-length, fails_before_first}
use Rattle.std.specs.List.{slice_split, position_or_len}
use lib.Dec.{ltb}
use Rattle.journal_lines.specs.Lines.{without_return, lines}

-- there is a first part
pub first_part : (p : ℕ → Bool) (xs : List ℕ) → (y : List ℕ) × (ys : List (List ℕ)) × (slice_split p xs ≡ y ∷ ys)
first_part p [] = ([], [], refl)
first_part p (x ∷ xs) =
    elim (cases_Bool (p x)) [
      | inl here ↦ ([], slice_split p xs, rw here refl)
      | inr other ↦ let rest = first_part p xs in (x ∷ rest.0, rest.1, rw (other, rest.2) refl)
    ]

-- where a place was found, it is the first
pub found_place : (b : Bool) (m n : ℕ) → Some m ≡ cond b (Some n) None → (b ≡ true) × (m ≡ n)
found_place true m n h = (refl, cc)
found_place false m n h = cc

no_place : (b : Bool) (n : ℕ) → None ≡ cond b (Some n) None → b ≡ false
no_place true n h = cc
no_place false n h = refl

-- a line feed ends the first line
pub lines_found : (text : List ℕ) (at : ℕ) → Some at ≡ position (λ b. b == 10) text
    → (lines text ≡ without_return (take at text) ∷ lines (drop (at + 1) text)) × (at < length text)
lines_found text at e =
    let p : ℕ → Bool = λ b. b == 10 in
    let found = found_place (ltb (position_or_len p text) (length text)) at (position_or_len p text) e in
    let low = ltb-true _ _ found.0 in
    let split = slice_split_first p text 0 low in
    let more = first_part p (drop (at + 1) text) in
    (rw (split, ← found.1, more.2) refl, omega (arith, found.1))

-- without one the text is the last line
pub lines_last : (text : List ℕ) → 0 < length text → None ≡ position (λ b. b == 10) text
    → lines text ≡ without_return text ∷ []
lines_last text l e =
    let p : ℕ → Bool = λ b. b == 10 in
    let low = ltb-false _ _ (no_place (ltb (position_or_len p text) (length text)) _ e) in
    let whole : slice_split p text ≡ text ∷ [] =
    slice_split_none p text (λ k d b. fails_before_first p text k d (omega arith)) in
    rw (whole, ne_eqb (length text) 0 (omega arith)) refl

-- what a slice from n on holds
pub whole_rest : (n : ℕ) (xs : List ℕ) → take (length xs - n) (drop n xs) ≡ drop n xs
whole_rest n xs = grind (arith, common_steps)

-- where no place was found, it is the length
pub none_place : (p : ℕ → Bool) (xs : List ℕ) → None ≡ position p xs → length xs ≡ position_or_len p xs
none_place p xs e =
    let low = ltb-false _ _ (no_place (ltb (position_or_len p xs) (length xs)) _ e) in
    omega (arith, prefix_len-le-length (λ b. not (p b)) xs)
