-- Laws of printed numbers.
use Rattle.std.proofs.Common.{◌≡◌, ◌≤◌, ◌<◌, ◌+◌, ◌/◌, ◌%◌, ◌++◌, ℕ, zero, suc, List, [], ◌∷◌, length, take, ◌-◌, arith}
use Rattle.std.proofs.Common.{refl, ap, ◌∙◌, append_assoc, add-one, inl, inr, decimal, Result, Ok, Err, OnErr}
use Rattle.std.proofs.lemmas.Bool.{lt-ltb, le-ltb, cases_lt}
use Rattle.std.proofs.lemmas.Grind.{common_steps}
use Rattle.std.proofs.Math.Seq.{take-append_seam}
use Rattle.money_core.specs.Printed.{places, grouped, grouped_within}

-- enough turns are enough
pub grouped_turns : (group f k n : ℕ) → n < f → n < k → grouped_within group f n ≡ grouped_within group k n
grouped_turns group zero k n a b = absurd (omega arith)
grouped_turns group (suc f) zero n a b = absurd (omega arith)
grouped_turns group (suc f) (suc k) n a b =
    elim (cases_lt n 1000) [
      | inl small ↦ rw (lt-ltb n 1000 small) refl
      | inr large ↦ rw (le-ltb n 1000 large, grouped_turns group f k (n / 1000) (omega arith) (omega arith)) refl
    ]

pub grouped_small : (group n : ℕ) → n < 1000 → grouped group n ≡ decimal n
unfolding grouped
grouped_small group n small = rw (add-one, lt-ltb n 1000 small) refl

pub grouped_step : (group n : ℕ) → 1000 ≤ n → grouped group n ≡ grouped group (n / 1000) ++ group ∷ places 3 (n % 1000)
unfolding grouped
grouped_step group n large =
    rw (add-one, le-ltb n 1000 large, grouped_turns group n (n / 1000 + 1) (n / 1000) (omega arith) (omega arith)) refl

pub places_step : (k n : ℕ) → 0 < k → places k n ≡ places (k - 1) (n / 10) ++ (48 + n % 10) ∷ []
unfolding places
places_step zero n h = absurd (omega arith)
places_step (suc k) n h = let e : suc k - 1 ≡ k = omega arith in rw e refl

-- what was appended to what was appended
pub appended_twice : (a b c x y : List ℕ) → b ≡ a ++ x → c ≡ b ++ y → c ≡ a ++ (x ++ y)
appended_twice a b c x y e f = f ∙ (ap (λ (l : List ℕ). l ++ y) e ∙ append_assoc a x y)

-- a front stays a front
pub kept_front : (a b c : List ℕ) (n : ℕ) → n ≡ length a → take n b ≡ a → take (length b) c ≡ b → take n c ≡ a
kept_front a b c n l e f = grind (arith, common_steps)

pub places_zero : (n : ℕ) → places 0 n ≡ []
unfolding places
places_zero n = refl

-- what holds anyway holds on an error
pub on_err : {T E : Type 0} (r : Result T E) (P : Type 0) → P → OnErr r P
on_err (Ok x) P p = tt
on_err (Err e) P p = p

-- what was appended to leaves the front
pub taken_with_more : (a b x y : List ℕ) → b ≡ a ++ x → take (length a) (b ++ y) ≡ a
taken_with_more a b x y e = rw e (rw (append_assoc a x y) (take-append_seam a (x ++ y)))

pub places_suc : (k n : ℕ) → places (suc k) n ≡ places k (n / 10) ++ (48 + n % 10) ∷ []
unfolding places
places_suc k n = refl
