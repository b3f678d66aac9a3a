-- what the row of a transfer says of it
use Rattle.std.proofs.Common.{◌≡◌, ◌+◌, ℕ, suc, Bool, true, false, ◌||◌, List, [], ◌∷◌, refl, ap, ◌∙◌, map, Some}
use Rattle.std.specs.Prelude.{if◌then◌else◌}
use Rattle.std.specs.List.{list_any, slice_get}
use Rattle.std.specs.Str.{bytes_eq}
use Rattle.money_core.proofs.BytesLemmas.{same_bytes}
use Rattle.treasury_state.specs.Federation.{Branch, has_name, name_place}
use Rattle.treasury_state.proofs.RestLemmas.{numbered}

-- the rows of transfers have no number
pub numbered_const : {X Y : Type 0} (g : X → Y) (n : ℕ) (xs : List X) → numbered (λ (k : ℕ). g) n xs ≡ map g xs
numbered_const g n [] = refl
numbered_const g n (x ∷ xs) = ap (λ ys. g x ∷ ys) (numbered_const g (n + 1) xs)

-- the branch of a name stands at its place
pub name_found : (bs : List Branch) (name : List ℕ) → list_any (has_name name) bs ≡ true
    → (b : Branch) × ((slice_get bs (name_place bs name) ≡ Some b) × (b.name ≡ name))
name_found [] name e = absurd cc
name_found (b ∷ bs) name e = by_test (bytes_eq b.name name) refl e (name_found bs name)
  where
    by_test : (t : Bool) → bytes_eq b.name name ≡ t → (t || list_any (has_name name) bs) ≡ true
        → (list_any (has_name name) bs ≡ true
        → (x : Branch) × ((slice_get bs (name_place bs name) ≡ Some x) × (x.name ≡ name)))
        → (x : Branch) × ((slice_get (b ∷ bs) (if bytes_eq b.name name then 0 else suc (name_place bs name)) ≡ Some x)
        × (x.name ≡ name))
    by_test true g k later = (
      b,
      (
        ap (λ (t : Bool). slice_get (b ∷ bs) (if t then 0 else suc (name_place bs name))) g,
        same_bytes b.name name g,
      ),
    )
    by_test false g k later = let r =
        later k in (
          r.0,
          (ap (λ (t : Bool). slice_get (b ∷ bs) (if t then 0 else suc (name_place bs name))) g ∙ r.1.0, r.1.1),
        )
