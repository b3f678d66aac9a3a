-- Tables whose names and columns are those that `init` gives them.
use Rattle.std.proofs.Common.{◌≡◌, ◌<◌, ◌∙◌, ℕ, true, List, map, length, get_or, sym, ap}
use Rattle.std.proofs.lemmas.List.{get_or-map}
use Rattle.sqlite_schema.specs.Names.{same_name}
use Rattle.sqlite_catalog.proofs.StepLemmas.{same_itself}

-- lists with the same values have the same value at each place
pub map_at : {X Y Z : Type 0} (f : X → Z) (h : Y → Z) (xs : List X) (ys : List Y) (i : ℕ) (d : X) (e : Y)
    → i < length xs → i < length ys → map f xs ≡ map h ys → f (get_or xs i d) ≡ h (get_or ys i e)
map_at f h xs ys i d e within inside same =
    sym (get_or-map f xs i d (f d) within) ∙ (ap (λ l. get_or l i (f d)) same ∙ get_or-map h ys i e (f d) inside)

-- an equal name is the same
pub same_if_equal : (a b : List ℕ) → a ≡ b → same_name a b ≡ true
same_if_equal a b is = ap (same_name a) (sym is) ∙ same_itself a
