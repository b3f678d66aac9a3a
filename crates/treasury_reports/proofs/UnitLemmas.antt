-- which commodities are declared
use Rattle.std.proofs.Common.{◌≡◌, ℕ, ◌≤◌, ◌<◌, List, length, get_or, true, false, Option, Some, None, Bor, sym, ◌∙◌}
use Rattle.std.proofs.Common.{◌⊎◌, inl, inr}
use Rattle.std.specs.Prelude.{is_some}
use Rattle.std.specs.Option.{option_copied}
use Rattle.std.specs.List.{slice_get}
use Rattle.std.proofs.lemmas.Option.{slice_get_within, slice_get_cases}

pub below_from_found : {X : Type 0} (xs : List X) (i : ℕ) (o : Option (Bor X)) → option_copied o ≡ slice_get xs i
    → true ≡ is_some o → i < length xs
below_from_found xs i (Some x) h k = slice_get_within xs i x.now (sym h)
below_from_found xs i None h k = absurd (cc)

pub above_from_missed : {X : Type 0} (xs : List X) (i : ℕ) (o : Option (Bor X)) → option_copied o ≡ slice_get xs i
    → false ≡ is_some o → length xs ≤ i
above_from_missed xs i (Some x) h k = absurd (cc)
above_from_missed {X} xs i None h k = by_place (slice_get_cases xs i).1
  where
    by_place : ((x : X) × (i < length xs) × (slice_get xs i ≡ Some x) × (get_or xs i x ≡ x))
        ⊎ ((length xs ≤ i) × (slice_get xs i ≡ None)) → length xs ≤ i
    by_place (inl found) = absurd (let e = h ∙ found.2 in cc)
    by_place (inr past) = past.0
