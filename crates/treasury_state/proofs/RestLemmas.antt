-- the first of what is left of a list, and the rest
use Rattle.std.proofs.Common.{◌≡◌, ℕ, List, [], ◌∷◌, ap}
use Rattle.std.proofs.Common.{map}
use Rattle.std.specs.List.{enumerate_from}

-- the rows of a list, numbered
abbrev pub numbered : {X Y : Type 0} → (ℕ → X → Y) → ℕ → List X → List Y
numbered g n xs = map (λ p. g p.0 p.1) (enumerate_from n xs)

pub first_of : {Y : Type 0} → Y → List Y → Y
first_of d [] = d
first_of d (y ∷ ys) = y

pub rest_of : {Y : Type 0} → List Y → List Y
rest_of [] = []
rest_of (y ∷ ys) = ys

pub same_heads : {Y : Type 0} (x y : Y) (xs ys : List Y) → x ∷ xs ≡ y ∷ ys → x ≡ y
unfolding first_of
same_heads x y xs ys e = ap (first_of x) e

pub same_tails : {Y : Type 0} (x y : Y) (xs ys : List Y) → x ∷ xs ≡ y ∷ ys → xs ≡ ys
unfolding rest_of
same_tails x y xs ys e = ap rest_of e
