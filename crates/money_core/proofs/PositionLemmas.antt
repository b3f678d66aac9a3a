-- Where an element stands in a list to which more was appended.
use Rattle.std.proofs.Common.{◌≡◌, ◌<◌, ◌++◌, ℕ, zero, suc, List, [], ◌∷◌, Bool, true, false, cond, not, Some, None}
use Rattle.std.proofs.Common.{length, position, arith, refl, ◌∙◌, inl, inr, ◌⊎◌, length-append, nat_lt}
use Rattle.std.specs.List.{slice_get, prefix_len, position_or_len}
use Rattle.std.proofs.lemmas.Bool.{lt-ltb, ltb-true, ltb-false, ne_eqb, eq-eqb}
use Rattle.std.proofs.lemmas.List.Folds.{prefix_len-append}
use Rattle.std.proofs.lemmas.List.Sums.{prefix_len-le-length}

-- what a choice between a number and none was
pub some_chosen : (b : Bool) (n i : ℕ) → cond b (Some n) None ≡ Some i → (b ≡ true) × (n ≡ i)
some_chosen true n i h = (refl, cc)
some_chosen false n i h = absurd cc

pub none_chosen : (b : Bool) (n : ℕ) → cond b (Some n) None ≡ None → b ≡ false
none_chosen true n h = absurd cc
none_chosen false n h = refl

-- what is found nowhere has its place after the end
pub position-none : {X : Type 0} (p : X → Bool) (xs : List X) → position p xs ≡ None → length xs ≡ position_or_len p xs
position-none p xs h =
    let n = position_or_len p xs in
    omega (
      arith,
      ltb-false n (length xs) (none_chosen (nat_lt n (length xs)) n h),
      prefix_len-le-length (λ x. not (p x)) xs,
    )

-- what was found stays where it is
pub position-append_found : {X : Type 0} (p : X → Bool) (xs ys : List X) (i : ℕ) → position p xs ≡ Some i
    → position p (xs ++ ys) ≡ Some i
position-append_found p xs ys i h =
    let n = position_or_len p xs in
    let at = some_chosen (nat_lt n (length xs)) n i h in
    let low : n < length xs = ltb-true n (length xs) at.0 in
    let long : n < length (xs ++ ys) = omega (arith, low, length-append xs ys) in
    let same : position_or_len p (xs ++ ys) ≡ n =
    prefix_len-append (λ x. not (p x)) xs ys ∙ rw (ne_eqb n (length xs) (omega arith)) refl in
    rw (same, lt-ltb n (length (xs ++ ys)) long, at.1) refl

-- what is found nowhere before is found at the end
pub position-append_next : {X : Type 0} (p : X → Bool) (xs : List X) (y : X) → position p xs ≡ None → p y ≡ true
    → position p (xs ++ y ∷ []) ≡ Some (length xs)
position-append_next p xs y h k =
    let n = position_or_len p xs in
    let high = ltb-false n (length xs) (none_chosen (nat_lt n (length xs)) n h) in
    let all : n ≡ length xs = omega (arith, high, prefix_len-le-length (λ x. not (p x)) xs) in
    let long : length xs < length (xs ++ y ∷ []) = omega (arith, length-append xs (y ∷ [])) in
    let last : prefix_len (λ x. not (p x)) (y ∷ []) ≡ 0 = rw k refl in
    let same : position_or_len p (xs ++ y ∷ []) ≡ length xs =
    prefix_len-append (λ x. not (p x)) xs (y ∷ []) ∙ rw (eq-eqb n (length xs) all, last) (omega arith) in
    rw (same, lt-ltb (length xs) (length (xs ++ y ∷ [])) long) refl

-- an element of a list with one more is of the list, or the last
pub slice_get-snoc : {X : Type 0} (xs : List X) (y : X) (i : ℕ) (s : X) → slice_get (xs ++ y ∷ []) i ≡ Some s
    → (slice_get xs i ≡ Some s) ⊎ ((i ≡ length xs) × (y ≡ s))
slice_get-snoc [] y zero s h = inr (refl, cc)
slice_get-snoc [] y (suc i) s h = absurd cc
slice_get-snoc (x ∷ xs) y zero s h = inl h
slice_get-snoc (x ∷ xs) y (suc i) s h =
    elim (slice_get-snoc xs y i s h) [ inl front ↦ inl front | inr last ↦ inr (omega (arith, last.0), last.1) ]
