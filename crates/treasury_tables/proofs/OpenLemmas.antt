-- Which version of the tables is there, with its row of `format`.
use Rattle.std.proofs.Common.{◌≡◌, ◌∙◌, ◌⊎◌, inl, inr, ℕ, ℤ, Option, Some, None, IfSome, Bool, List, [], ◌∷◌, map}
use Rattle.std.proofs.Common.{filter, codes, true, false, refl, sym, ap, subst, subst₂, IsPermutation, ◌↔◌, true≢false}
use Rattle.std.specs.List.{list_any}
use Rattle.std.proofs.lemmas.List.Sorted.{IsPermutation-map, IsPermutation-sym}
use Rattle.sqlite_keyed.proofs.ListLemmas.{map-map}
use Rattle.sqlite_schema.specs.Names.{same_name}
use Rattle.sqlite.specs.declared.types.Value.{Value}
use Rattle.sqlite.specs.declared.types.Value.TheVariants.{Null}
use Rattle.sqlite.specs.Order.{Row, column}
use Rattle.sqlite.specs.Query.{Output, output}
use Rattle.sqlite.specs.Program.{overlay}
use Rattle.sqlite.specs.Command.TheVariants.{Select}
use Rattle.sqlite.specs.Table.{Table}
use Rattle.sqlite.specs.Schema.{Schema}
use Rattle.sqlite.specs.Effect.{Database}
use Rattle.sqlite.specs.State.{State, Shown}
use Rattle.sqlite.proofs.Callers.{reads_as, one_permutation}
use Rattle.treasury_tables.specs.Tables.{store_schema, first_schema}
use Rattle.treasury_tables.specs.Creating.{has_all, has_receipt}
use Rattle.treasury_tables.specs.Opening.{AreOursAlone, IsFirstVersion, IsSecond, IsEither}
use Rattle.treasury_tables.proofs.Texts.{format_rows_text, first_format_rows_is, format_query, format_columns}
use Rattle.treasury_tables.proofs.Texts.{format_order}
use Rattle.treasury_tables.proofs.QueryLemmas.{at, answer_is}
use Rattle.treasury_tables.proofs.QueriedLemmas.{all_chosen, versions_are}

-- ---- the names of either version
pub first_all : has_all first_schema ≡ true
unfolding same_name
first_all = refl

pub first_bare : has_receipt first_schema ≡ false
unfolding same_name
first_bare = refl

pub second_all : has_all store_schema ≡ true
unfolding same_name
second_all = refl

pub second_more : has_receipt store_schema ≡ true
unfolding same_name
second_more = refl

pub ours_first : (s : Schema) → s ≡ first_schema → AreOursAlone s
ours_first s is = record {
  first = λ all bare. is;
  second = λ all more.
      absurd (true≢false (sym more ∙ (ap has_receipt is ∙ first_bare)));
}

pub ours_second : (s : Schema) → s ≡ store_schema → AreOursAlone s
ours_second s is = record {
  first = λ all bare.
      absurd (true≢false (sym second_more ∙ (ap has_receipt (sym is) ∙ bare)));
  second = λ all more. is;
}

pub receipt_is_there : (given : List ℕ) (s : Schema) (r : Bool) → r ≡ list_any (λ t. same_name t.name given) s.tables
    → given ≡ codes "receipt" → has_receipt s ≡ r
receipt_is_there given s r is same = ap (λ n. list_any (λ (t : Table). same_name t.name n) s.tables) (sym same) ∙ sym is

module _ (db : Database) where
  -- a name is missing
  pub none_there : has_all db.schema ≡ false → IsFirstVersion db ⊎ IsSecond db → ⊥
  none_there none (inl first) = true≢false (sym first_all ∙ (ap has_all (sym first.schema) ∙ none))
  none_there none (inr second) = true≢false (sym second_all ∙ (ap has_all (sym second.schema) ∙ none))

  pub not_first : has_receipt db.schema ≡ true → IsFirstVersion db → ⊥
  not_first more first = true≢false (sym more ∙ (ap has_receipt first.schema ∙ first_bare))

  pub not_second : has_receipt db.schema ≡ false → IsSecond db → ⊥
  not_second bare second = true≢false (sym second_more ∙ (ap has_receipt (sym second.schema) ∙ bare))

-- ---- the rows of `format` in either
first_versions : (old new : State) (rows : List Row) → old.now.schema ≡ first_schema
    → Shown format_rows_text [] old new rows → IsPermutation (map (λ r. column r 1 ∷ []) (old.now.trees 0)) rows
first_versions old new rows has h =
    let got = reads_as format_rows_text [] old new first_schema has
    (Select (record { lets = []; body = format_query }) (codes "version" ∷ [])) first_format_rows_is.0
    first_format_rows_is.2 first_format_rows_is.1 rows h in
    let answer = answer_is [] 0 [] format_columns format_order (λ _. true) (λ _. refl) (overlay old.now.trees []) rows
    (got.answer Null) in
    let shows : map (λ (o : Output). o.1)
    (map (λ r. output format_query (at [] r)) (filter (λ _. true) (old.now.trees 0)))
    ≡ map (λ r. column r 1 ∷ []) (old.now.trees 0) =
    ap (λ l. map (λ (o : Output). o.1) (map (λ r. output format_query (at [] r)) l)) (all_chosen (old.now.trees 0)) ∙
    map-map (λ (o : Output). o.1) (λ r. output format_query (at [] r)) (old.now.trees 0) in
    subst₂ IsPermutation shows (sym answer.3) (IsPermutation-map (λ (o : Output). o.1) _ _ answer.1)

pub either_versions : (old new : State) (rows : List Row) → IsEither old.now.schema
    → Shown format_rows_text [] old new rows → IsPermutation (map (λ r. column r 1 ∷ []) (old.now.trees 0)) rows
either_versions old new rows (inl first) h = first_versions old new rows first h
either_versions old new rows (inr second) h = versions_are old new rows second h

pub shown_versions : (stored rows : List Row) (v : Value) → IsPermutation (map (λ r. column r 1 ∷ []) stored) rows
    → (map (λ r. column r 0) rows ≡ v ∷ []) ↔ (map (λ r. column r 1) stored ≡ v ∷ [])
shown_versions stored rows v same =
    let columns : IsPermutation (map (λ r. column r 1) stored) (map (λ r. column r 0) rows) =
    subst (λ l. IsPermutation l (map (λ r. column r 0) rows)) (map-map (λ r. column r 0) (λ r. column r 1 ∷ []) stored)
    (IsPermutation-map (λ r. column r 0) _ _ same) in (
      λ shown. one_permutation v _ (IsPermutation-sym _ _
          (subst (IsPermutation (map (λ r. column r 1) stored)) shown columns)),
      λ held. one_permutation v _ (subst (λ l. IsPermutation l (map (λ r. column r 0) rows)) held columns),
    )

pub some_version : (o : Option ℤ) (P : ℤ → Type 0) → ((n : ℤ) → o ≡ Some n → P n) → IfSome o P
some_version None P f = tt
some_version (Some n) P f = f n refl
