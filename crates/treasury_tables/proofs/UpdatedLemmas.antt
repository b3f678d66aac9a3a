-- What a table shows after an UPDATE: rows that it takes show what they were changed to, and each other is as it was.
use Rattle.std.proofs.Common.{◌≡◌, List, ◌++◌, map, filter, Bool, not, cond, refl, sym, ap, subst, subst₂}
use Rattle.std.proofs.Common.{◌∙◌, IsPermutation}
use Rattle.std.proofs.lemmas.List.{map-append}
use Rattle.std.proofs.lemmas.List.Sorted.{IsPermutation-trans, IsPermutation-map, IsPermutation-append}
use Rattle.std.proofs.lemmas.List.Sorted.{IsPermutation-filter_both}
use Rattle.std.proofs.lemmas.Bool.{not-true}
use Rattle.sqlite_keyed.proofs.ListLemmas.{map-map, filter-map, filter_same, IsPermutation-filter}
use Rattle.sqlite.specs.Order.{Row}
use Rattle.treasury_tables.proofs.RowLemmas.{map_chosen}

-- `row` is what an object has in the table, and `shown` what the table shows of a stored row. Those that are `chosen`,
-- as what they show tells, are taken out; what the query gives of each, recast, is put in.
module _ {X : Type 0} (row : X → Row) (shown query recast renewed : Row → Row) (change : X → X) (is_it : X → Bool)
    (chosen taken : Row → Bool) (chosen_is : (r : Row) → taken (shown r) ≡ chosen r)
    (it_is : (x : X) → taken (row x) ≡ is_it x)
    (renews : (r : Row) → shown (recast (query r)) ≡ renewed (shown r))
    (back : (x : X) → renewed (row x) ≡ row (change x)) where
  abbrev changed_one : X → X
  changed_one x = cond (is_it x) (change x) x

  pub rows_picked : (xs : List X) (old : List Row) → IsPermutation (map row xs) (map shown old)
      → IsPermutation (map row (filter is_it xs)) (map shown (filter chosen old))
  rows_picked xs old same =
      subst₂ IsPermutation (filter-map taken row xs ∙ ap (map row) (filter_same _ _ it_is xs))
      (filter-map taken shown old ∙ ap (map shown) (filter_same _ _ chosen_is old))
      (IsPermutation-filter taken _ _ same)

  rows_kept : (xs : List X) (old : List Row) → IsPermutation (map row xs) (map shown old)
      → IsPermutation (map row (filter (λ x. not (is_it x)) xs)) (map shown (filter (λ r. not (chosen r)) old))
  rows_kept xs old same =
      subst₂ IsPermutation
      (filter-map (λ s. not (taken s)) row xs ∙ ap (map row) (filter_same _ _ (λ x. ap not (it_is x)) xs))
      (filter-map (λ s. not (taken s)) shown old ∙ ap (map shown) (filter_same _ _ (λ r. ap not (chosen_is r)) old))
      (IsPermutation-filter (λ s. not (taken s)) _ _ same)

  rows_fresh : (xs : List X) (old got : List Row) → IsPermutation (map row xs) (map shown old)
      → IsPermutation (map query (filter chosen old)) got
      → IsPermutation (map (λ x. row (change x)) (filter is_it xs)) (map shown (map recast got))
  rows_fresh xs old got same shows =
      let these = filter is_it xs in
      let those = filter chosen old in
      let now : map (λ r. renewed (shown r)) those ≡ map (λ r. shown (recast (query r))) those =
      sym (λ i. map (λ r. renews r i) those) in
      IsPermutation-trans _ _ _
      (subst₂ IsPermutation (map-map renewed row these ∙ (λ i. map (λ x. back x i) these))
      (map-map renewed shown those ∙ now) (IsPermutation-map renewed _ _ (rows_picked xs old same)))
      (subst₂ IsPermutation (map-map (λ s. shown (recast s)) query those) (sym (map-map shown recast got))
      (IsPermutation-map (λ s. shown (recast s)) _ _ shows))

  pub rows_updated : (xs : List X) (old got new : List Row) → IsPermutation (map row xs) (map shown old)
      → IsPermutation (map query (filter chosen old)) got
      → IsPermutation (map recast got ++ filter (λ r. not (chosen r)) old) new
      → IsPermutation (map row (map changed_one xs)) (map shown new)
  rows_updated xs old got new same shows put =
      let both = λ (x : X). row (changed_one x) in
      let parts : IsPermutation (map both xs) (map both (filter is_it xs) ++ map both (filter (λ x. not (is_it x)) xs))
      =
      subst (IsPermutation (map both xs)) (map-append both (filter is_it xs) _)
      (IsPermutation-map both _ _ (IsPermutation-filter_both is_it (λ x. not (is_it x)) (λ _. refl) xs)) in
      let first = map_chosen is_it both (λ x. row (change x))
      (λ x e. ap (λ c. row (cond c (change x) x)) e) xs in
      let second = map_chosen (λ x. not (is_it x)) both row
      (λ x e. ap (λ c. row (cond c (change x) x)) (not-true (is_it x) e)) xs in
      let columns : IsPermutation (map shown (map recast got) ++ map shown (filter (λ r. not (chosen r)) old))
      (map shown new) =
      subst (λ l. IsPermutation l (map shown new)) (map-append shown (map recast got) _)
      (IsPermutation-map shown _ _ put) in
      subst (λ l. IsPermutation l (map shown new)) (sym (map-map row changed_one xs))
      (IsPermutation-trans _ _ _ (subst₂ (λ l k. IsPermutation (map both xs) (l ++ k)) first second parts)
      (IsPermutation-trans _ _ _ (IsPermutation-append _ _ _ _ (rows_fresh xs old got same shows)
      (rows_kept xs old same))
      columns))
