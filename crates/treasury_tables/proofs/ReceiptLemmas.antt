-- What the UPDATE of a transfer's receipt does.
use Rattle.std.proofs.Common.{◌≡◌, ℕ, ℤ, List, [], ◌∷◌, ◌++◌, map, filter, drop, Bool, not, bytes_eq}
use Rattle.std.proofs.Common.{Some, None, Ok, refl, sym, ap, subst, subst₂, ◌∙◌, IsPermutation, is_eq, arith, pos}
use Rattle.std.proofs.Math.Bool.{and-true}
use Rattle.std.specs.List.{list_all}
use Rattle.std.proofs.lemmas.Map.Text.{is_eq-slice_cmp}
use Rattle.std.proofs.lemmas.List.Sorted.{IsPermutation-map}
use Rattle.sqlite_keyed.proofs.ListLemmas.{map-map}
use Rattle.sqlite_trees.specs.View.{IsShaped}
use Rattle.sqlite_trees.specs.declared.store.Shape.TheVariants as shape
use Rattle.sqlite_trees.proofs.TreeLemmas.{IsShaped-filter}
use Rattle.sqlite_value.proofs.OrderLemmas.{value_cmp-Text}
use Rattle.sqlite_rules.specs.Calls.{ids_of}
use Rattle.sqlite.specs.declared.types.Value.{Value}
use Rattle.sqlite.specs.declared.types.Value.TheVariants.{Null, Int, Text}
use Rattle.sqlite.specs.Term.{holds}
use Rattle.sqlite.specs.Query.{Output, output}
use Rattle.sqlite.specs.Program.{overlay}
use Rattle.sqlite.specs.Order.{Row, column, value_cmp}
use Rattle.sqlite.specs.Command.TheVariants.{Update}
use Rattle.sqlite.specs.Edit.{Edit, edit_of, left_by}
use Rattle.sqlite.specs.Rowids.TheVariants.{Given}
use Rattle.sqlite.specs.Does.{Does}
use Rattle.sqlite.specs.Cast.{cast_row}
use Rattle.sqlite.specs.Listing.{understood}
use Rattle.sqlite.specs.State.{State, mode_of, Executes}
use Rattle.sqlite.proofs.Callers.{statement_of, runs_as}
use Rattle.treasury_tables.specs.Tables.{transfer_table, store_schema}
use Rattle.treasury_tables.specs.Rows.{Tables, HoldsTables, values_of_unit, values_of_branch, values_of_entry}
use Rattle.treasury_tables.specs.Rows.{values_of_leg, values_of_claim}
use Rattle.treasury_tables.specs.Rows.{values_of_transfer, values_of_part, shown_unit, shown_branch, shown_entry}
use Rattle.treasury_tables.specs.Rows.{shown_leg}
use Rattle.treasury_tables.specs.Rows.{shown_claim, shown_transfer, shown_part, tables_with_receipt}
use Rattle.treasury_tables.proofs.Steps.{updates}
use Rattle.treasury_tables.proofs.Texts.{receive_text, receive_is, receive_filter, receive_terms, receive_query}
use Rattle.treasury_tables.proofs.RowLemmas.{puts_permute, cast_int, cast_null, numbered_given}
use Rattle.treasury_tables.proofs.QueryLemmas.{at, matched_text, answer_is}
use Rattle.treasury_tables.proofs.KeyedLemmas.{without_chosen, shaped_puts}
use Rattle.treasury_tables.proofs.UpdatedLemmas.{rows_updated}
use Rattle.treasury_state.specs.declared.rows.TransferRow.{TransferRow}

module _ (id : List ℕ) (day : ℤ) (payee : List ℕ) where
  abbrev given : Row
  given = Text id ∷ Int day ∷ Text payee ∷ []

  abbrev has_id : Row → Bool
  has_id r = is_eq (value_cmp (column r 1) (Text id))

  -- the same, by what the table shows of a row
  abbrev shows_id : Row → Bool
  shows_id s = is_eq (value_cmp (column s 0) (Text id))

  abbrev is_it : TransferRow → Bool
  is_it x = bytes_eq x.id id

  abbrev settled : TransferRow → TransferRow
  settled x = record x { received = Some day; payee = Some payee }

  -- what the query gives of a row, by its rowid and what the table shows of it, and what is then stored
  abbrev asked : Value → Row → Row
  asked v s = v ∷ v ∷ column s 0 ∷ column s 1 ∷ column s 2 ∷ column s 3 ∷ column s 4 ∷ column s 5 ∷ column s 6 ∷ Int day
      ∷ Text payee ∷ []

  abbrev query : Row → Row
  query r = asked (column r 0) (shown_transfer r)

  abbrev recast : Row → Row
  recast s = cast_row transfer_table (drop 1 s)

  -- what the table then shows, whatever the rowid
  abbrev renewed : Row → Row
  renewed s = shown_transfer (recast (asked (Int (pos 0)) s))

  receive_filter_is : (r : Row) → list_all (holds (at given r)) receive_filter ≡ has_id r
  receive_filter_is r = and-true _ ∙ matched_text (column r 1) id

  id_is : (x : TransferRow) → shows_id (values_of_transfer x) ≡ is_it x
  id_is x = ap is_eq (value_cmp-Text x.id id) ∙ is_eq-slice_cmp x.id id

  transfer_stored : (x : TransferRow)
      → recast (asked (Int (pos 0)) (values_of_transfer x)) ≡ Int (pos 0) ∷ values_of_transfer (settled x)
  transfer_stored x = simp (cast_int, cast_null)

  transfer_shown : (x : TransferRow) → renewed (values_of_transfer x) ≡ values_of_transfer (settled x)
  transfer_shown x = ap shown_transfer (transfer_stored x)

  pub holds_received : (old new : State) (t : Tables) (count : ℕ) → HoldsTables old.now t
      → Executes receive_text given old new (Ok count) → HoldsTables new.now (tables_with_receipt id day payee t)
  holds_received old new t count holds h =
      let command = Update 6 (record { lets = []; body = receive_query }) in
      let w = runs_as receive_text given old new store_schema holds.shows.schema command receive_is.0 receive_is.1
      count h in
      let text = statement_of receive_text (understood store_schema receive_text) in
      let done = subst (λ s. Does old.step_limit (mode_of old) given (record old.now { schema = s }) text None command
      (Ok (w.tally, new.now))) holds.shows.schema w.changed in
      let made = updates old.step_limit store_schema transfer_table.name transfer_table.tree transfer_table.columns
      transfer_table.key
      transfer_table.primary transfer_table.uniques transfer_table.orders given old.now.trees w.tally new.now
      (mode_of old) 6 (record { lets = []; body = receive_query }) (λ _ _. refl) done in
      let db = old.now.trees in
      let got = made.0 in
      let a = made.3 in
      let answer =
      answer_is given 12 receive_filter receive_terms [] has_id receive_filter_is (overlay db []) got
      (made.2.answer Null) in
      let shows : IsPermutation (map query (filter has_id (db 12))) got =
      subst₂ IsPermutation (map-map (λ (o : Output). o.1) (λ r. output receive_query (at given r))
      (filter has_id (db 12))) (sym answer.3) (IsPermutation-map (λ (o : Output). o.1) _ _ answer.1) in
      let left = without_chosen (db 12) holds.keyed has_id query (λ _. refl) got shows in
      let edit : Edit = edit_of db transfer_table (ids_of got) Given 1 got in
      let news : edit.news ≡ map recast got = numbered_given (left_by db edit) (map recast got) in
      let put : IsPermutation (map recast got ++ filter (λ r. not (has_id r)) (db 12)) (new.now.trees 12) =
      subst₂ (λ n l. IsPermutation (n ++ l) (new.now.trees 12)) news left
      (subst (IsPermutation _) (sym a.rows) (puts_permute edit.news (left_by db edit) a.fresh)) in
      record {
        shows = record {
          schema = made.1;
          units = subst (λ rs. IsPermutation (map values_of_unit t.units) (map shown_unit rs))
              (sym (a.tables.1.0 (omega arith))) holds.shows.units;
          branches = subst (λ rs. IsPermutation (map values_of_branch t.branches) (map shown_branch rs))
              (sym (a.tables.1.1.0 (omega arith))) holds.shows.branches;
          entries = subst (λ rs. IsPermutation (map values_of_entry t.entries) (map shown_entry rs))
              (sym (a.tables.1.1.1.0 (omega arith))) holds.shows.entries;
          legs = subst (λ rs. IsPermutation (map values_of_leg t.legs) (map shown_leg rs))
              (sym (a.tables.1.1.1.1.0 (omega arith))) holds.shows.legs;
          claims = subst (λ rs. IsPermutation (map values_of_claim t.claims) (map shown_claim rs))
              (sym (a.tables.1.1.1.1.1.0 (omega arith))) holds.shows.claims;
          transfers =
              rows_updated values_of_transfer shown_transfer query recast renewed settled is_it has_id shows_id
              (λ _. refl) id_is (λ _. refl) transfer_shown t.transfers (db 12) got (new.now.trees 12)
              holds.shows.transfers shows put;
          receipts = subst (λ rs. IsPermutation (map values_of_part t.receipts) (map shown_part rs))
              (sym (a.tables.1.1.1.1.1.1.1.0 (omega arith))) holds.shows.receipts;
        };
        format = ap (map (λ r. column r 1)) (a.tables.0 (omega arith)) ∙ holds.format;
        numbered = subst (IsShaped shape.Table) (sym (a.tables.0 (omega arith))) holds.numbered;
        keyed = subst (IsShaped shape.Table) (sym a.rows)
            (shaped_puts edit.news (left_by db edit) a.keyed
            (subst (IsShaped shape.Table) (sym left)
            (IsShaped-filter shape.Table (λ r. not (has_id r)) (db 12) holds.keyed)));
      }
