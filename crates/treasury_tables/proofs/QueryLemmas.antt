-- What a query of one table answers.
use Rattle.std.proofs.Common.{◌≡◌, ℕ, ℤ, List, [], ◌∷◌, ◌++◌, map, filter, flat_map, Bool, true, false, cond, refl, ap}
use Rattle.std.proofs.Common.{subst, ◌∙◌, IsPermutation, IsSorted, is_eq, Some}
use Rattle.std.specs.List.{list_all}
use Rattle.sqlite.specs.declared.types.Value.{Value}
use Rattle.sqlite.specs.declared.types.Value.TheVariants.{Null, Int, Real, Text, Blob}
use Rattle.sqlite.specs.Order.{Row, value_cmp}
use Rattle.sqlite.specs.Ops.{binary, is_true, from_truth}
use Rattle.sqlite.specs.Term.{Term, Env, holds}
use Rattle.sqlite.specs.Tree.{Trees}
use Rattle.sqlite.specs.Query.{IsAnswer, Output, output, output_cmp}
use Rattle.sqlite.specs.Collation.TheVariants.{Binary}
use Rattle.sqlite_sql.specs.declared.ops.CompareOp.TheVariants.{Eq}
use Rattle.sqlite_sql.specs.declared.ops.BinaryOp.TheVariants.{Compare}
use Rattle.sqlite_value.specs.declared.keys.Key.{Key}
use Rattle.sqlite_keyed.proofs.ListLemmas.{map-map}
use Rattle.treasury_tables.proofs.Texts.{table_query}

is_true_from_truth : (b : Bool) → is_true (from_truth (Some b)) ≡ b
is_true_from_truth true = refl
is_true_from_truth false = refl

pub matched_int : (v : Value) (n : ℤ) → is_true (binary (Compare Eq Binary) v (Int n)) ≡ is_eq (value_cmp v (Int n))
unfolding binary value_cmp
matched_int Null n = refl
matched_int (Int m) n = is_true_from_truth (is_eq (value_cmp (Int m) (Int n)))
matched_int (Real x) n = is_true_from_truth (is_eq (value_cmp (Real x) (Int n)))
matched_int (Text t) n = is_true_from_truth (is_eq (value_cmp (Text t) (Int n)))
matched_int (Blob b) n = is_true_from_truth (is_eq (value_cmp (Blob b) (Int n)))

pub matched_text : (v : Value) (s : List ℕ)
    → is_true (binary (Compare Eq Binary) v (Text s)) ≡ is_eq (value_cmp v (Text s))
unfolding binary value_cmp
matched_text Null s = refl
matched_text (Int m) s = is_true_from_truth (is_eq (value_cmp (Int m) (Text s)))
matched_text (Real x) s = is_true_from_truth (is_eq (value_cmp (Real x) (Text s)))
matched_text (Text t) s = is_true_from_truth (is_eq (value_cmp (Text t) (Text s)))
matched_text (Blob b) s = is_true_from_truth (is_eq (value_cmp (Blob b) (Text s)))

module _ (params : Row) where
  abbrev pub at : Row → Env
  at r = params ∷ r ∷ []

  rows_chosen : (p : Row → Bool) (terms : List Term) → ((r : Row) → list_all (holds (at r)) terms ≡ p r)
      → (rows : List Row)
      → flat_map (λ r. cond (list_all (holds (at r)) terms) (at r ∷ []) []) rows ≡ map at (filter p rows)
  rows_chosen p terms is [] = refl
  rows_chosen p terms is (r ∷ rows) = rw (is r) (first (p r) (rows_chosen p terms is rows))
    where
      first : (b : Bool) → flat_map (λ r. cond (list_all (holds (at r)) terms) (at r ∷ []) []) rows
          ≡ map at (filter p rows)
          → cond b (at r ∷ []) [] ++ flat_map (λ r. cond (list_all (holds (at r)) terms) (at r ∷ []) []) rows
          ≡ map at (cond b (r ∷ filter p rows) (filter p rows))
      first true e = ap (λ l. at r ∷ l) e
      first false e = e

  pub answer_is : (tree : ℕ) (terms project : List Term) (order : List (Term × Key)) (p : Row → Bool)
      → ((r : Row) → list_all (holds (at r)) terms ≡ p r) → (db : Trees) (rows : List Row)
      → IsAnswer (table_query tree terms project order) db params rows
      → (ordered : List Output) × IsPermutation
      (map (λ r. output (table_query tree terms project order) (at r)) (filter p (db tree))) ordered
      × IsSorted (output_cmp (table_query tree terms project order)) ordered × (rows ≡ map (λ o. o.1) ordered)
  answer_is tree terms project order p is db rows a =
      let q = table_query tree terms project order in
      let staged : a.staged ≡ map at (filter p (db tree)) = a.grouped ∙ rows_chosen p terms is (db tree) in
      let kept : a.kept ≡ map (λ r. output q (at r)) (filter p (db tree)) =
      a.distinct ∙ ap (map (output q)) staged ∙ map-map (output q) at (filter p (db tree)) in
      (a.ordered, subst (λ k. IsPermutation k a.ordered) kept a.same, a.sorted, a.shown)
