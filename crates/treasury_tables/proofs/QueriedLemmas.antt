-- What a query answers, and that it changes nothing.
use Rattle.std.proofs.Common.{◌≡◌, codes, List, [], ◌∷◌, Ok, Err, Result, IfOk, map, filter, true, refl, sym, ap, subst}
use Rattle.std.proofs.Common.{subst₂, ◌∙◌, IsPermutation}
use Rattle.std.proofs.lemmas.List.Sorted.{IsPermutation-map}
use Rattle.sqlite_keyed.proofs.ListLemmas.{map-map}
use Rattle.sqlite.specs.declared.types.Value.TheVariants.{Null}
use Rattle.sqlite.specs.Order.{Row, column}
use Rattle.sqlite.specs.Query.{Output, output}
use Rattle.sqlite.specs.Program.{overlay}
use Rattle.sqlite.specs.Command.TheVariants.{Select}
use Rattle.sqlite.specs.State.{State, IsUnchanged, ShowsRows, Shown}
use Rattle.sqlite.specs.Listing.{understood}
use Rattle.sqlite.specs.Clock.{timed}
use Rattle.sqlite.proofs.Callers.{IsPlain, reads_as}
use Rattle.treasury_tables.specs.Tables.{store_schema}
use Rattle.treasury_tables.proofs.Texts.{format_rows_text, format_rows_is, format_query, format_columns, format_order}
use Rattle.treasury_tables.proofs.QueryLemmas.{at, answer_is}
use Rattle.std.proofs.Common.{ℕ}

pub all_chosen : (rows : List Row) → filter (λ _. true) rows ≡ rows
all_chosen [] = refl
all_chosen (r ∷ rows) = ap (λ l. r ∷ l) (all_chosen rows)

pub versions_are : (old new : State) (rows : List Row) → old.now.schema ≡ store_schema
    → Shown format_rows_text [] old new rows → IsPermutation (map (λ r. column r 1 ∷ []) (old.now.trees 0)) rows
versions_are old new rows has h =
    let got = reads_as format_rows_text [] old new store_schema has
    (Select (record { lets = []; body = format_query }) (codes "version" ∷ [])) format_rows_is.0 format_rows_is.2
    format_rows_is.1 rows h in
    let answer = answer_is [] 0 [] format_columns format_order (λ _. true) (λ _. refl) (overlay old.now.trees []) rows
    (got.answer Null) in
    let shows : map (λ (o : Output). o.1)
    (map (λ r. output format_query (at [] r)) (filter (λ _. true) (old.now.trees 0)))
    ≡ map (λ r. column r 1 ∷ []) (old.now.trees 0) =
    ap (λ l. map (λ (o : Output). o.1) (map (λ r. output format_query (at [] r)) l)) (all_chosen (old.now.trees 0)) ∙
    map-map (λ (o : Output). o.1) (λ r. output format_query (at [] r)) (old.now.trees 0) in
    subst₂ IsPermutation shows (sym answer.3) (IsPermutation-map (λ (o : Output). o.1) _ _ answer.1)

-- a query changes nothing
pub shown_same : (sql : List ℕ) (params : Row) (old new : State) (rows : List Row)
    → IsPlain (understood old.now.schema sql) → Shown sql params old new rows → IsUnchanged old new
unfolding Shown
shown_same sql params old new rows plain h =
    let bare = (subst IsPlain h.1.is plain).0 in
    let it = subst (ShowsRows old new sql h.0 (timed params h.0.formats h.1.now) rows) bare h.2 in it.3

pub ok_then : {X E : Type 0} (r : Result X E) (P Q : X → Type 0) → ((x : X) → P x → Q x) → IfOk r P → IfOk r Q
ok_then (Ok x) P Q f h = f x h
ok_then (Err e) P Q f h = tt
