-- items by their numbers
use Rattle.std.proofs.Common.{◌≡◌, ◌<◌, ◌≤◌, ◌+◌, ℕ, zero, suc, List, [], ◌∷◌, ◌++◌, length, refl, ap, arith}
use Rattle.std.specs.Prelude.{slice_get}
use Rattle.journal_hints.specs.Numbered.{item_of_number}

left_of : {X : Type 0} (xs ys : List X) (k : ℕ) → k < length xs → slice_get (xs ++ ys) k ≡ slice_get xs k
left_of [] ys k h = absurd (omega (arith, h))
left_of (x ∷ xs) ys zero h = refl
left_of (x ∷ xs) ys (suc k) h = left_of xs ys k (omega (arith, h))

right_of : {X : Type 0} (xs ys : List X) (k j : ℕ) → k ≡ length xs + j → slice_get (xs ++ ys) k ≡ slice_get ys j
right_of [] ys k j h = ap (slice_get ys) (omega (arith, h))
right_of (x ∷ xs) ys zero j h = absurd (omega (arith, h))
right_of (x ∷ xs) ys (suc k) j h = right_of xs ys k j (omega (arith, h))

-- one of the first ones, and one of those after them
pub numbered_first : {X : Type 0} (xs ys : List X) (n : ℕ) → n ≤ length xs
    → item_of_number (xs ++ ys) n ≡ item_of_number xs n
numbered_first xs ys zero h = refl
numbered_first xs ys (suc n) h = left_of xs ys n (omega (arith, h))

pub numbered_behind : {X : Type 0} (xs ys : List X) (n k : ℕ) → n ≡ length xs + k → 0 < k
    → item_of_number (xs ++ ys) n ≡ item_of_number ys k
numbered_behind xs ys zero k e h = absurd (omega (arith, e, h))
numbered_behind xs ys (suc n) zero e h = absurd (omega (arith, h))
numbered_behind xs ys (suc n) (suc k) e h = right_of xs ys n k (omega (arith, e))
