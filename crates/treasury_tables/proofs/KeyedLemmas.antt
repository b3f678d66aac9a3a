-- Rows with hidden rowids: an update of some rows of a table takes out those rows and no other.
use Rattle.std.proofs.Common.{◌≡◌, zero, ℤ, List, [], ◌∷◌, map, filter, Bool, true, false, not, cond}
use Rattle.std.proofs.Common.{◌||◌, inl, inr, Ordering, Less, Equal, Greater, is_eq, IsPermutation, refl, sym}
use Rattle.std.proofs.Common.{ap, ap₂, subst, ◌∙◌, true≢false}
use Rattle.std.specs.List.{list_any, AllByRecursion}
use Rattle.std.proofs.lemmas.Bool.{cases_Bool, and_parts}
use Rattle.std.proofs.lemmas.Cmp.{tied_itself}
use Rattle.std.proofs.lemmas.List.Sorted.{IsPermutation-map, list_any-IsPermutation}
use Rattle.sqlite_keyed.proofs.ListLemmas.{map-map}
use Rattle.sqlite_rules.specs.Lists.{Has}
use Rattle.sqlite_rules.specs.Calls.{ids_of}
use Rattle.sqlite_rules.proofs.ListLemmas.{all_from, all_has, some_has, some_from, has_filtered, has_kept}
use Rattle.sqlite_rules.proofs.ProbeLemmas.{mapped_has}
use Rattle.sqlite_rules.proofs.TableLemmas.{int_is}
use Rattle.sqlite_rules.proofs.PlaceLemmas.{tied_same}
use Rattle.sqlite_trees.specs.View.{is_int, IsShaped}
use Rattle.sqlite_trees.specs.declared.store.Shape.TheVariants as shape
use Rattle.sqlite_trees.proofs.TreeLemmas.{IsShaped-put_row}
use Rattle.sqlite_value.proofs.OrderLemmas.{value_cmp_total}
use Rattle.sqlite.specs.declared.types.Value.TheVariants.{Int}
use Rattle.sqlite.specs.Order.{Row, value_cmp}
use Rattle.sqlite.specs.Tree.{rowid, has_rowid, without_rowid, put_row}
use Rattle.sqlite.specs.Edit.{id_in, without_all, put_all, have_rowids}

-- ---- which rows are taken out

pub equal_is : (o : Ordering) → is_eq o ≡ true → o ≡ Equal
equal_is Less h = absurd (cc)
equal_is Equal h = refl
equal_is Greater h = absurd (cc)

filter_and : {X : Type 0} (a b : X → Bool) (xs : List X)
    → filter (λ x. not (b x)) (filter (λ x. not (a x)) xs) ≡ filter (λ x. not (a x || b x)) xs
filter_and a b [] = refl
filter_and {X} a b (x ∷ xs) = go (a x) (filter_and a b xs)
  where
    go : (t : Bool) → filter (λ x. not (b x)) (filter (λ x. not (a x)) xs) ≡ filter (λ x. not (a x || b x)) xs
        → filter (λ x. not (b x)) (cond (not t) (x ∷ filter (λ x. not (a x)) xs) (filter (λ x. not (a x)) xs))
        ≡ cond (not (t || b x)) (x ∷ filter (λ x. not (a x || b x)) xs) (filter (λ x. not (a x || b x)) xs)
    go true more = more
    go false more = ap (λ l. cond (not (b x)) (x ∷ l) l) more

filter_within : {X : Type 0} (p q : X → Bool) (xs : List X) → AllByRecursion (λ x. p x ≡ q x) xs
    → filter p xs ≡ filter q xs
filter_within p q [] all = refl
filter_within p q (x ∷ xs) all = ap₂ (λ b l. cond b (x ∷ l) l) all.0 (filter_within p q xs all.1)

all_stay : {X : Type 0} (xs : List X) → xs ≡ filter (λ _. true) xs
all_stay [] = refl
all_stay (x ∷ xs) = ap (λ l. x ∷ l) (all_stay xs)

abbrev named_by : List ℤ → Row → Bool
named_by ids r = list_any (λ id. has_rowid id r) ids

without_all_is : (ids : List ℤ) (rows : List Row) → without_all rows ids ≡ filter (λ r. not (named_by ids r)) rows
without_all_is [] rows = all_stay rows
without_all_is (id ∷ ids) rows =
    without_all_is ids (without_rowid id rows) ∙ filter_and (has_rowid id) (named_by ids) rows

source_of : {X Y : Type 0} (f : X → Y) (xs : List X) (y : Y) → Has (map f xs) y → (x : X) × Has xs x × (y ≡ f x)
source_of f [] y h = absurd h
source_of f (x ∷ xs) y (inl same) = (x, inl refl, same)
source_of f (x ∷ xs) y (inr later) = let more = source_of f xs y later in (more.0, inr more.1, more.2)

module _ (rows : List Row) (table : IsShaped shape.Table rows) (p : Row → Bool) where
  its_own : (r : Row) → Has rows r → has_rowid (id_in (rowid r)) r ≡ true
  its_own r h =
      let is = int_is (rowid r) (all_has _ rows r table.1 h) in
      ap (λ v. is_eq (value_cmp (rowid r) v)) (sym is) ∙ ap is_eq (tied_itself value_cmp_total (rowid r))

  chosen_is_named : (r : Row) → Has rows r → named_by (ids_of (filter p rows)) r ≡ p r
  chosen_is_named r h = elim (cases_Bool (p r)) [
    | inl picked ↦ some_from (λ id. has_rowid id r) _ (id_in (rowid r))
        (mapped_has (λ r. id_in (rowid r)) _ r (has_kept p rows r h picked)) (its_own r h) ∙ sym picked
    | inr other_one ↦ elim (cases_Bool (named_by (ids_of (filter p rows)) r)) [
      | inl named ↦ absurd (
          let found = some_has (λ id. has_rowid id r) _ named in
          let from = source_of (λ r. id_in (rowid r)) (filter p rows) found.0 found.1 in
          let other = has_filtered p rows from.0 from.1 in
          let is = int_is (rowid from.0) (all_has _ rows from.0 table.1 other.0) in
          let tie = equal_is _ found.2 ∙ refl in
          let same = tied_same rows r from.0 table.0 h other.0
          (subst (λ v. value_cmp (rowid r) v ≡ Equal) (ap Int from.2 ∙ sym is) tie) in
          true≢false (sym other.1 ∙ ap p (sym same) ∙ other_one))
      | inr none ↦ none ∙ sym other_one
    ]
  ]

  -- the rows whose ids the answer of a query names are those that the query chose
  pub without_chosen : (shown : Row → Row) → ((r : Row) → rowid (shown r) ≡ rowid r) → (got : List Row)
      → IsPermutation (map shown (filter p rows)) got
      → without_all rows (ids_of got) ≡ filter (λ r. not (p r)) rows
  without_chosen shown keeps got same =
      let ids : IsPermutation (ids_of (filter p rows)) (ids_of got) =
      subst (λ l. IsPermutation l (ids_of got))
      (map-map (λ r. id_in (rowid r)) shown (filter p rows) ∙ (λ i. map (λ r. id_in (keeps r i)) (filter p rows)))
      (IsPermutation-map (λ r. id_in (rowid r)) _ _ same) in
      without_all_is (ids_of got) rows
      ∙ filter_within _ _ rows (all_from (λ r. not (named_by (ids_of got) r) ≡ not (p r)) rows (λ r h.
      ap not (sym (list_any-IsPermutation (λ id. has_rowid id r) _ _ ids) ∙ chosen_is_named r h)))

pub shaped_puts : (news rows : List Row) → have_rowids news ≡ true → IsShaped shape.Table rows
    → IsShaped shape.Table (put_all rows news)
shaped_puts [] rows keyed table = table
shaped_puts (n ∷ news) rows keyed table =
    let both = and_parts (is_int (rowid n)) _ keyed in
    shaped_puts news (put_row n rows) both.1 (IsShaped-put_row n rows both.0 table)
