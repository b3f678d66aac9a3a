-- What the UPDATE of a branch's lock day does.
use Rattle.std.proofs.Common.{◌≡◌, ◌&&◌, ℕ, ℤ, List, [], ◌∷◌, ◌++◌, map, filter, length, drop, Bool, true, false, not}
use Rattle.std.proofs.Common.{cond, Some, None, Ok, refl, sym, ap, subst, subst₂, ◌∙◌, IsPermutation, is_eq, int_eq}
use Rattle.std.proofs.Common.{arith}
use Rattle.std.proofs.Math.Bool.{and-true}
use Rattle.std.proofs.lemmas.Bool.Decides.{Decides-int_eq}
use Rattle.std.specs.List.{list_all, AllByRecursion}
use Rattle.std.proofs.lemmas.List.Elements.{recursion_from_All, All-from_recursion}
use Rattle.std.proofs.lemmas.List.Sorted.{IsPermutation-trans, IsPermutation-map}
use Rattle.std.proofs.lemmas.List.Sorted.{length_permutation, All-permutation}
use Rattle.sqlite_keyed.proofs.ListLemmas.{map-map}
use Rattle.sqlite_value.proofs.OrderLemmas.{value_cmp-Int}
use Rattle.sqlite_rules.specs.Calls.{ids_of}
use Rattle.sqlite_sql.specs.declared.ops.CompareOp.TheVariants.{Eq}
use Rattle.sqlite_sql.specs.declared.ops.BinaryOp.TheVariants.{Compare}
use Rattle.sqlite.specs.Collation.TheVariants.{Binary}
use Rattle.sqlite.specs.declared.types.Value.{Value}
use Rattle.sqlite.specs.Term.{holds}
use Rattle.sqlite.specs.Ops.{binary, is_true}
use Rattle.sqlite.specs.Program.{overlay}
use Rattle.sqlite.specs.Query.{Output, output}
use Rattle.sqlite.specs.declared.types.Value.TheVariants.{Null, Int, Text}
use Rattle.sqlite_trees.specs.View.{IsShaped}
use Rattle.sqlite_trees.specs.declared.store.Shape.TheVariants as shape
use Rattle.sqlite.specs.Order.{Row, column, value_cmp}
use Rattle.sqlite.specs.Command.TheVariants.{Update}
use Rattle.sqlite.specs.Edit.{Edit, edit_of, id_in, without_all, left_by}
use Rattle.sqlite.specs.Rowids.TheVariants.{Given}
use Rattle.sqlite.specs.Tree.{rowid, has_rowid, without_rowid}
use Rattle.sqlite.specs.Does.{Does}
use Rattle.sqlite.specs.Cast.{cast_row}
use Rattle.sqlite.specs.Listing.{understood}
use Rattle.sqlite.specs.State.{State, mode_of, Executes}
use Rattle.sqlite.proofs.Callers.{statement_of, runs_as}
use Rattle.treasury_tables.specs.Tables.{branch_table, store_schema}
use Rattle.treasury_tables.specs.Rows.{Tables, HoldsTables, values_of_unit, values_of_branch, values_of_entry}
use Rattle.treasury_tables.specs.Rows.{values_of_leg, values_of_claim}
use Rattle.treasury_tables.specs.Rows.{values_of_transfer, values_of_part, shown_unit, shown_branch, shown_entry}
use Rattle.treasury_tables.specs.Rows.{shown_leg}
use Rattle.treasury_tables.specs.Rows.{shown_claim, shown_transfer, shown_part, tables_with_lock}
use Rattle.treasury_tables.proofs.Steps.{updates}
use Rattle.treasury_tables.proofs.Texts.{lock_text, lock_is, lock_filter, lock_terms, lock_query}
use Rattle.treasury_tables.proofs.RowLemmas.{puts_permute, cast_int, cast_null, none_chosen, without_same}
use Rattle.treasury_tables.proofs.RowLemmas.{numbered_given}
use Rattle.treasury_tables.proofs.QueryLemmas.{at, matched_int, answer_is}
use Rattle.treasury_tables.proofs.UpdatedLemmas.{rows_picked, rows_updated}
use Rattle.treasury_state.specs.declared.rows.BranchRow.{BranchRow}

module _ (nr day : ℤ) where
  abbrev given : Row
  given = Int nr ∷ Int day ∷ []

  abbrev is_it : BranchRow → Bool
  is_it b = int_eq b.nr nr

  abbrev relocked : BranchRow → BranchRow
  relocked b = record b { locked = Some day }

  -- what the query gives of a row, as a function of what the table shows of it, and what is then stored
  abbrev asked : Row → Row
  asked s = column s 0 ∷ column s 0 ∷ Null ∷ column s 1 ∷ Int day ∷ []

  abbrev query : Row → Row
  query r = asked (shown_branch r)

  abbrev recast : Row → Row
  recast s = cast_row branch_table (drop 1 s)

  lock_filter_is : (r : Row) → list_all (holds (at given r)) lock_filter ≡ has_rowid nr r
  lock_filter_is r = go (column r 0)
    where
      go : (v : Value) → (is_true (binary (Compare Eq Binary) v (Int nr)) && true) ≡ is_eq (value_cmp v (Int nr))
      go v = and-true _ ∙ matched_int v nr

  id_is : (b : BranchRow) → has_rowid nr (values_of_branch b) ≡ is_it b
  id_is b = ap is_eq (value_cmp-Int b.nr nr)

  branch_stored : (b : BranchRow) → recast (asked (values_of_branch b)) ≡ Int b.nr ∷ Null ∷ Text b.name ∷ Int day ∷ []
  branch_stored b = simp (cast_int, cast_null)

  branch_shown : (b : BranchRow) → shown_branch (recast (asked (values_of_branch b))) ≡ values_of_branch (relocked b)
  branch_shown b = ap shown_branch (branch_stored b)

  ids_of_locked : (bs : List BranchRow) → AllByRecursion (λ r. id_in (rowid r) ≡ nr)
      (map (λ b. asked (values_of_branch b)) (filter is_it bs))
  ids_of_locked [] = tt
  ids_of_locked (b ∷ bs) = go (is_it b) refl (ids_of_locked bs)
    where
      go : (t : Bool) → is_it b ≡ t → AllByRecursion (λ r. id_in (rowid r) ≡ nr)
          (map (λ b. asked (values_of_branch b)) (filter is_it bs))
          → AllByRecursion (λ r. id_in (rowid r) ≡ nr)
          (map (λ b. asked (values_of_branch b)) (cond t (b ∷ filter is_it bs) (filter is_it bs)))
      go true e more = ((Decides-int_eq b.nr nr).0 e, more)
      go false e more = more

  ids_same : (rows : List Row) → AllByRecursion (λ r. id_in (rowid r) ≡ nr) rows
      → AllByRecursion (λ i. i ≡ nr) (ids_of rows)
  ids_same [] all = tt
  ids_same (r ∷ rows) all = (all.0, ids_same rows all.1)

  -- the rows that the update takes out
  left_is : (rows got : List Row) → AllByRecursion (λ r. id_in (rowid r) ≡ nr) got
      → IsPermutation (map query (filter (has_rowid nr) rows)) got
      → without_all rows (ids_of got) ≡ filter (λ r. not (has_rowid nr r)) rows
  left_is rows [] all same =
      sym (none_chosen (has_rowid nr) rows (empty (filter (has_rowid nr) rows) (length_permutation _ _ same)))
    where
      empty : (xs : List Row) → 0 ≡ length (map query xs) → xs ≡ []
      empty [] e = refl
      empty (x ∷ xs) e = absurd (omega arith)
  left_is rows (r ∷ got) all same =
      ap (λ i. without_all (without_rowid i rows) (ids_of got)) all.0 ∙ without_same nr (ids_of got) rows
      (ids_same got all.1)

  pub holds_locked : (old new : State) (t : Tables) (count : ℕ) → HoldsTables old.now t
      → Executes lock_text given old new (Ok count) → HoldsTables new.now (tables_with_lock nr day t)
  holds_locked old new t count holds h =
      let command = Update 2 (record { lets = []; body = lock_query }) in
      let w = runs_as lock_text given old new store_schema holds.shows.schema command lock_is.0 lock_is.1 count h in
      let text = statement_of lock_text (understood store_schema lock_text) in
      let done = subst (λ s. Does old.step_limit (mode_of old) given (record old.now { schema = s }) text None command
      (Ok (w.tally, new.now))) holds.shows.schema w.changed in
      let made = updates old.step_limit store_schema branch_table.name branch_table.tree branch_table.columns
      branch_table.key branch_table.primary
      branch_table.uniques branch_table.orders given old.now.trees w.tally new.now (mode_of old) 2
      (record { lets = []; body = lock_query }) (λ _ _. refl) done in
      let bs = t.branches in
      let db = old.now.trees in
      let got = made.0 in
      let answer =
      answer_is given 3 lock_filter lock_terms [] (has_rowid nr) lock_filter_is (overlay db []) got
      (made.2.answer Null) in
      let shows : IsPermutation (map query (filter (has_rowid nr) (db 3))) got =
      subst₂ IsPermutation (map-map (λ (o : Output). o.1) (λ r. output lock_query (at given r))
      (filter (has_rowid nr) (db 3))) (sym answer.3) (IsPermutation-map (λ (o : Output). o.1) _ _ answer.1) in
      let these : IsPermutation (map values_of_branch (filter is_it bs))
      (map shown_branch (filter (has_rowid nr) (db 3))) =
      rows_picked values_of_branch shown_branch query recast (λ s. shown_branch (recast (asked s))) relocked is_it
      (has_rowid nr) (has_rowid nr) (λ _. refl) id_is (λ _. refl) branch_shown bs (db 3) holds.shows.branches in
      let from : IsPermutation (map (λ b. asked (values_of_branch b)) (filter is_it bs)) got =
      IsPermutation-trans _ _ _ (subst₂ IsPermutation (map-map asked values_of_branch (filter is_it bs))
      (map-map asked shown_branch (filter (has_rowid nr) (db 3))) (IsPermutation-map asked _ _ these)) shows in
      let all : AllByRecursion (λ r. id_in (rowid r) ≡ nr) got =
      recursion_from_All (λ r. id_in (rowid r) ≡ nr) got
      (All-permutation (λ r. id_in (rowid r) ≡ nr) _ got from
      (All-from_recursion (λ r. id_in (rowid r) ≡ nr) _ (ids_of_locked bs))) in
      let left = left_is (db 3) got all shows in
      let a = made.3 in
      let edit : Edit = edit_of db branch_table (ids_of got) Given 1 got in
      let news : edit.news ≡ map recast got = numbered_given (left_by db edit) (map recast got) in
      let put : IsPermutation (map recast got ++ filter (λ r. not (has_rowid nr r)) (db 3)) (new.now.trees 3) =
      subst₂ (λ n l. IsPermutation (n ++ l) (new.now.trees 3)) news left
      (subst (IsPermutation _) (sym a.rows) (puts_permute edit.news (left_by db edit) a.fresh)) in
      record {
        shows = record {
          schema = made.1;
          units = subst (λ rs. IsPermutation (map values_of_unit t.units) (map shown_unit rs))
              (sym (a.tables.1.0 (omega arith))) holds.shows.units;
          branches =
              rows_updated values_of_branch shown_branch query recast (λ s. shown_branch (recast (asked s))) relocked
              is_it (has_rowid nr) (has_rowid nr) (λ _. refl) id_is (λ _. refl) branch_shown bs (db 3) got
              (new.now.trees 3) holds.shows.branches shows put;
          entries = subst (λ rs. IsPermutation (map values_of_entry t.entries) (map shown_entry rs))
              (sym (a.tables.1.1.1.0 (omega arith))) holds.shows.entries;
          legs = subst (λ rs. IsPermutation (map values_of_leg t.legs) (map shown_leg rs))
              (sym (a.tables.1.1.1.1.0 (omega arith))) holds.shows.legs;
          claims = subst (λ rs. IsPermutation (map values_of_claim t.claims) (map shown_claim rs))
              (sym (a.tables.1.1.1.1.1.0 (omega arith))) holds.shows.claims;
          transfers = subst (λ rs. IsPermutation (map values_of_transfer t.transfers) (map shown_transfer rs))
              (sym (a.tables.1.1.1.1.1.1.0 (omega arith))) holds.shows.transfers;
          receipts = subst (λ rs. IsPermutation (map values_of_part t.receipts) (map shown_part rs))
              (sym (a.tables.1.1.1.1.1.1.1.0 (omega arith))) holds.shows.receipts;
        };
        format = ap (map (λ r. column r 1)) (a.tables.0 (omega arith)) ∙ holds.format;
        numbered = subst (IsShaped shape.Table) (sym (a.tables.0 (omega arith))) holds.numbered;
        keyed = subst (IsShaped shape.Table) (sym (a.tables.1.1.1.1.1.1.0 (omega arith))) holds.keyed;
      }
