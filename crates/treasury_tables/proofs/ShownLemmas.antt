-- What a table shows of rows whose rowids are not looked at.
use Rattle.std.proofs.Common.{◌≡◌, ◌∙◌, List, [], ◌∷◌, ◌++◌, map, drop, refl, ap, ap₂, subst₂, IsPermutation}
use Rattle.std.proofs.lemmas.List.{map-append}
use Rattle.std.proofs.lemmas.List.Sorted.{IsPermutation-map}
use Rattle.sqlite_keyed.proofs.ListLemmas.{map-map}
use Rattle.sqlite.specs.Order.{Row, column}
use Rattle.treasury_tables.specs.Rows.{shown_entry, shown_leg, shown_claim}

pub map_identity : (rows : List Row) → rows ≡ map (λ r. r) rows
map_identity [] = refl
map_identity (r ∷ rows) = ap (λ l. r ∷ l) (map_identity rows)

-- ---- a row without its rowid
abbrev front5 : Row → Row
front5 r = column r 0 ∷ column r 1 ∷ column r 2 ∷ column r 3 ∷ column r 4 ∷ []

abbrev front6 : Row → Row
front6 r = column r 0 ∷ column r 1 ∷ column r 2 ∷ column r 3 ∷ column r 4 ∷ column r 5 ∷ []

entry_cut : (r : Row) → front5 (drop 1 r) ≡ shown_entry r
entry_cut [] = refl
entry_cut (x ∷ r) = refl

leg_cut : (r : Row) → front6 (drop 1 r) ≡ shown_leg r
leg_cut [] = refl
leg_cut (x ∷ r) = refl

claim_cut : (r : Row) → front6 (drop 1 r) ≡ shown_claim r
claim_cut [] = refl
claim_cut (x ∷ r) = refl

-- rows that are put in without looking at their rowids
module _ (front shown : Row → Row) (cuts : (r : Row) → front (drop 1 r) ≡ shown r) where
  map_recut : (rows : List Row) → map front (map (drop 1) rows) ≡ map shown rows
  map_recut rows = map-map front (drop 1) rows ∙ (λ i. map (λ r. cuts r i) rows)

  shown_moved : (more old new : List Row) → map front more ≡ more
      → IsPermutation (more ++ map (drop 1) old) (map (drop 1) new)
      → IsPermutation (more ++ map shown old) (map shown new)
  shown_moved more old new same moved =
      subst₂ IsPermutation
      (map-append front more (map (drop 1) old) ∙ ap₂ (λ l k. l ++ k) same (map_recut old)) (map_recut new)
      (IsPermutation-map front _ _ moved)

pub entries_moved : (more old new : List Row) → map front5 more ≡ more
    → IsPermutation (more ++ map (drop 1) old) (map (drop 1) new)
    → IsPermutation (more ++ map shown_entry old) (map shown_entry new)
entries_moved = shown_moved front5 shown_entry entry_cut

pub legs_moved : (more old new : List Row) → map front6 more ≡ more
    → IsPermutation (more ++ map (drop 1) old) (map (drop 1) new)
    → IsPermutation (more ++ map shown_leg old) (map shown_leg new)
legs_moved = shown_moved front6 shown_leg leg_cut

pub claims_moved : (more old new : List Row) → map front6 more ≡ more
    → IsPermutation (more ++ map (drop 1) old) (map (drop 1) new)
    → IsPermutation (more ++ map shown_claim old) (map shown_claim new)
claims_moved = shown_moved front6 shown_claim claim_cut
