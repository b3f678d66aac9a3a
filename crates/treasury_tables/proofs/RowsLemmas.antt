-- What the INSERTs of a row do to the tables.
use Rattle.std.proofs.Common.{◌≡◌, ℕ, ℤ, Option, Some, None, List, [], ◌∷◌, map, Ok, refl, sym, ap, subst, ◌∙◌}
use Rattle.std.proofs.Common.{IsPermutation, arith}
use Rattle.std.proofs.lemmas.List.Sorted.{IsPermutation-cons, IsPermutation-trans, IsPermutation-map}
use Rattle.sqlite_trees.specs.View.{IsShaped}
use Rattle.sqlite_trees.specs.declared.store.Shape.TheVariants as shape
use Rattle.sqlite_trees.proofs.TreeLemmas.{IsShaped-put_row}
use Rattle.sqlite.specs.declared.types.Value.TheVariants.{Null, Int, Text}
use Rattle.sqlite.specs.Order.{Row, column}
use Rattle.sqlite.specs.Cast.{cast}
use Rattle.sqlite.specs.Kind.TheVariants.{Integer, Text as Words}
use Rattle.sqlite.specs.Values.{or_null, bound_value}
use Rattle.sqlite.specs.Edit.{edit_of, next_rowid}
use Rattle.sqlite.specs.Rowids.TheVariants.{Chosen}
use Rattle.sqlite.specs.Tree.{Trees}
use Rattle.sqlite.specs.Effect.{value_rows}
use Rattle.sqlite.specs.State.{State, Executes}
use Rattle.treasury_state.specs.declared.rows.UnitRow.{UnitRow}
use Rattle.treasury_state.specs.declared.rows.BranchRow.{BranchRow}
use Rattle.treasury_state.specs.declared.rows.EntryRow.{EntryRow}
use Rattle.treasury_state.specs.declared.rows.LegRow.{LegRow}
use Rattle.treasury_state.specs.declared.rows.ClaimRow.{ClaimRow}
use Rattle.treasury_state.specs.declared.rows.TransferRow.{TransferRow}
use Rattle.treasury_state.specs.declared.rows.PartRow.{PartRow}
use Rattle.treasury_tables.specs.Tables.{unit_table, branch_table, entry_table, leg_table, claim_table, transfer_table}
use Rattle.treasury_tables.specs.Tables.{receipt_table, store_schema}
use Rattle.treasury_tables.specs.Rows.{Tables, HoldsTables, values_of_unit, values_of_branch, values_of_entry}
use Rattle.treasury_tables.specs.Rows.{values_of_leg, values_of_claim}
use Rattle.treasury_tables.specs.Rows.{values_of_transfer, values_of_part, shown_unit, shown_branch, shown_entry}
use Rattle.treasury_tables.specs.Rows.{shown_leg}
use Rattle.treasury_tables.specs.Rows.{shown_claim, shown_transfer, shown_part, tables_with_unit, tables_with_branch}
use Rattle.treasury_tables.specs.Rows.{tables_with_entry}
use Rattle.treasury_tables.specs.Rows.{tables_with_leg, tables_with_claim, tables_with_transfer, tables_with_part}
use Rattle.treasury_tables.proofs.Texts.{add_unit_text, add_unit_is, unit_terms, add_branch_text, add_branch_is}
use Rattle.treasury_tables.proofs.Texts.{branch_terms, add_entry_text, add_entry_is, entry_terms, add_leg_text}
use Rattle.treasury_tables.proofs.Texts.{add_leg_is, leg_terms, add_claim_text, add_claim_is, claim_terms}
use Rattle.treasury_tables.proofs.Texts.{add_transfer_text, add_transfer_is, transfer_terms, add_part_text, add_part_is}
use Rattle.treasury_tables.proofs.Texts.{part_terms}
use Rattle.treasury_tables.proofs.RowLemmas.{cast_int, cast_null}
use Rattle.treasury_tables.proofs.AddLemmas.{adds}

pub cast_day : (day : Option ℤ) → cast Integer (or_null Int day) ≡ or_null Int day
cast_day None = cast_null
cast_day (Some n) = cast_int n

cast_words : (words : Option (List ℕ)) → cast Words (or_null Text words) ≡ or_null Text words
cast_words None = refl
cast_words (Some n) = refl

pub bound_day : (day : Option ℤ) → bound_value (or_null Int day) ≡ or_null Int day
bound_day None = refl
bound_day (Some n) = refl

pub bound_words : (words : Option (List ℕ)) → bound_value (or_null Text words) ≡ or_null Text words
bound_words None = refl
bound_words (Some n) = refl

-- ---- unit
-- a commodity and a branch as their trees have them: the number is the rowid, and stands as NULL in its own column
abbrev stored_unit : UnitRow → Row
stored_unit u =
    Int u.nr ∷ Null ∷ Text u.symbol ∷ Int u.decimals ∷ Text u.mark ∷ Int u.grouped ∷ Int u.leftside ∷ Int u.spaced ∷ []

abbrev stored_branch : BranchRow → Row
stored_branch b = Int b.nr ∷ Null ∷ Text b.name ∷ or_null Int b.locked ∷ []

module _ (u : UnitRow) where
  unit_news : (db : Trees) → (edit_of db unit_table [] Chosen 0 (value_rows (values_of_unit u) 8 1 unit_terms)).news
      ≡ (stored_unit u) ∷ []
  unit_news db = simp (cast_int, cast_null)

  pub adds_unit : (old new : State) (t : Tables) (count : ℕ) → HoldsTables old.now t
      → Executes add_unit_text (values_of_unit u) old new (Ok count) → HoldsTables new.now (tables_with_unit u t)
  adds_unit old new t count holds h =
      let a = adds store_schema unit_table.name unit_table.tree unit_table.columns unit_table.key unit_table.primary
      unit_table.uniques unit_table.orders
      add_unit_text 1 unit_terms 8 (values_of_unit u) (λ db. stored_unit u) add_unit_is.0 add_unit_is.1 refl unit_news
      old new count holds.shows.schema h in
      record {
        shows = record {
          schema = a.schema_is;
          units = IsPermutation-trans _ _ _ (IsPermutation-cons (values_of_unit u) _ _ holds.shows.units)
              (IsPermutation-map shown_unit _ _ a.moved);
          branches = subst (λ rs. IsPermutation (map values_of_branch t.branches) (map shown_branch rs))
              (sym (a.others.1.1.0 (omega arith))) holds.shows.branches;
          entries = subst (λ rs. IsPermutation (map values_of_entry t.entries) (map shown_entry rs))
              (sym (a.others.1.1.1.0 (omega arith))) holds.shows.entries;
          legs = subst (λ rs. IsPermutation (map values_of_leg t.legs) (map shown_leg rs))
              (sym (a.others.1.1.1.1.0 (omega arith))) holds.shows.legs;
          claims = subst (λ rs. IsPermutation (map values_of_claim t.claims) (map shown_claim rs))
              (sym (a.others.1.1.1.1.1.0 (omega arith))) holds.shows.claims;
          transfers = subst (λ rs. IsPermutation (map values_of_transfer t.transfers) (map shown_transfer rs))
              (sym (a.others.1.1.1.1.1.1.0 (omega arith))) holds.shows.transfers;
          receipts = subst (λ rs. IsPermutation (map values_of_part t.receipts) (map shown_part rs))
              (sym (a.others.1.1.1.1.1.1.1.0 (omega arith))) holds.shows.receipts;
        };
        format = ap (map (λ r. column r 1)) (a.others.0 (omega arith)) ∙ holds.format;
        numbered = subst (IsShaped shape.Table) (sym (a.others.0 (omega arith))) holds.numbered;
        keyed = subst (IsShaped shape.Table) (sym (a.others.1.1.1.1.1.1.0 (omega arith))) holds.keyed;
      }

-- ---- branch
module _ (b : BranchRow) where
  branch_news : (db : Trees) → (edit_of db branch_table [] Chosen 0
      (value_rows (values_of_branch b) 4 1 branch_terms)).news ≡ (stored_branch b) ∷ []
  branch_news db = simp (cast_int, cast_null, cast_day)

  pub adds_branch : (old new : State) (t : Tables) (count : ℕ) → HoldsTables old.now t
      → Executes add_branch_text (values_of_branch b) old new (Ok count) → HoldsTables new.now (tables_with_branch b t)
  adds_branch old new t count holds h =
      let a = adds store_schema branch_table.name branch_table.tree branch_table.columns branch_table.key
      branch_table.primary branch_table.uniques
      branch_table.orders add_branch_text 2 branch_terms 4 (values_of_branch b) (λ db. stored_branch b) add_branch_is.0
      add_branch_is.1 refl branch_news old new count holds.shows.schema h in
      record {
        shows = record {
          schema = a.schema_is;
          units = subst (λ rs. IsPermutation (map values_of_unit t.units) (map shown_unit rs))
              (sym (a.others.1.0 (omega arith))) holds.shows.units;
          branches = IsPermutation-trans _ _ _ (IsPermutation-cons (values_of_branch b) _ _ holds.shows.branches)
              (IsPermutation-map shown_branch _ _ a.moved);
          entries = subst (λ rs. IsPermutation (map values_of_entry t.entries) (map shown_entry rs))
              (sym (a.others.1.1.1.0 (omega arith))) holds.shows.entries;
          legs = subst (λ rs. IsPermutation (map values_of_leg t.legs) (map shown_leg rs))
              (sym (a.others.1.1.1.1.0 (omega arith))) holds.shows.legs;
          claims = subst (λ rs. IsPermutation (map values_of_claim t.claims) (map shown_claim rs))
              (sym (a.others.1.1.1.1.1.0 (omega arith))) holds.shows.claims;
          transfers = subst (λ rs. IsPermutation (map values_of_transfer t.transfers) (map shown_transfer rs))
              (sym (a.others.1.1.1.1.1.1.0 (omega arith))) holds.shows.transfers;
          receipts = subst (λ rs. IsPermutation (map values_of_part t.receipts) (map shown_part rs))
              (sym (a.others.1.1.1.1.1.1.1.0 (omega arith))) holds.shows.receipts;
        };
        format = ap (map (λ r. column r 1)) (a.others.0 (omega arith)) ∙ holds.format;
        numbered = subst (IsShaped shape.Table) (sym (a.others.0 (omega arith))) holds.numbered;
        keyed = subst (IsShaped shape.Table) (sym (a.others.1.1.1.1.1.1.0 (omega arith))) holds.keyed;
      }

-- ---- entry
module _ (e : EntryRow) where
  entry_news : (db : Trees) → (edit_of db entry_table [] Chosen 0 (value_rows (values_of_entry e) 6 1 entry_terms)).news
      ≡ (Int (next_rowid (db 5)) ∷ values_of_entry e) ∷ []
  entry_news db = simp (cast_int, cast_null)

  pub adds_entry : (old new : State) (t : Tables) (count : ℕ) → HoldsTables old.now t
      → Executes add_entry_text (values_of_entry e) old new (Ok count) → HoldsTables new.now (tables_with_entry e t)
  adds_entry old new t count holds h =
      let a = adds store_schema entry_table.name entry_table.tree entry_table.columns entry_table.key
      entry_table.primary entry_table.uniques entry_table.orders
      add_entry_text 3 entry_terms 6 (values_of_entry e) (λ db. Int (next_rowid (db 5)) ∷ values_of_entry e)
      add_entry_is.0 add_entry_is.1 refl entry_news old new count holds.shows.schema h in
      record {
        shows = record {
          schema = a.schema_is;
          units = subst (λ rs. IsPermutation (map values_of_unit t.units) (map shown_unit rs))
              (sym (a.others.1.0 (omega arith))) holds.shows.units;
          branches = subst (λ rs. IsPermutation (map values_of_branch t.branches) (map shown_branch rs))
              (sym (a.others.1.1.0 (omega arith))) holds.shows.branches;
          entries = IsPermutation-trans _ _ _ (IsPermutation-cons (values_of_entry e) _ _ holds.shows.entries)
              (IsPermutation-map shown_entry _ _ a.moved);
          legs = subst (λ rs. IsPermutation (map values_of_leg t.legs) (map shown_leg rs))
              (sym (a.others.1.1.1.1.0 (omega arith))) holds.shows.legs;
          claims = subst (λ rs. IsPermutation (map values_of_claim t.claims) (map shown_claim rs))
              (sym (a.others.1.1.1.1.1.0 (omega arith))) holds.shows.claims;
          transfers = subst (λ rs. IsPermutation (map values_of_transfer t.transfers) (map shown_transfer rs))
              (sym (a.others.1.1.1.1.1.1.0 (omega arith))) holds.shows.transfers;
          receipts = subst (λ rs. IsPermutation (map values_of_part t.receipts) (map shown_part rs))
              (sym (a.others.1.1.1.1.1.1.1.0 (omega arith))) holds.shows.receipts;
        };
        format = ap (map (λ r. column r 1)) (a.others.0 (omega arith)) ∙ holds.format;
        numbered = subst (IsShaped shape.Table) (sym (a.others.0 (omega arith))) holds.numbered;
        keyed = subst (IsShaped shape.Table) (sym (a.others.1.1.1.1.1.1.0 (omega arith))) holds.keyed;
      }

-- ---- leg
module _ (l : LegRow) where
  leg_news : (db : Trees) → (edit_of db leg_table [] Chosen 0 (value_rows (values_of_leg l) 7 1 leg_terms)).news
      ≡ (Int (next_rowid (db 8)) ∷ values_of_leg l) ∷ []
  leg_news db = simp (cast_int, cast_null)

  pub adds_leg : (old new : State) (t : Tables) (count : ℕ) → HoldsTables old.now t
      → Executes add_leg_text (values_of_leg l) old new (Ok count) → HoldsTables new.now (tables_with_leg l t)
  adds_leg old new t count holds h =
      let a = adds store_schema leg_table.name leg_table.tree leg_table.columns leg_table.key leg_table.primary
      leg_table.uniques leg_table.orders add_leg_text 4
      leg_terms 7 (values_of_leg l) (λ db. Int (next_rowid (db 8)) ∷ values_of_leg l) add_leg_is.0 add_leg_is.1 refl
      leg_news old new count holds.shows.schema h in
      record {
        shows = record {
          schema = a.schema_is;
          units = subst (λ rs. IsPermutation (map values_of_unit t.units) (map shown_unit rs))
              (sym (a.others.1.0 (omega arith))) holds.shows.units;
          branches = subst (λ rs. IsPermutation (map values_of_branch t.branches) (map shown_branch rs))
              (sym (a.others.1.1.0 (omega arith))) holds.shows.branches;
          entries = subst (λ rs. IsPermutation (map values_of_entry t.entries) (map shown_entry rs))
              (sym (a.others.1.1.1.0 (omega arith))) holds.shows.entries;
          legs = IsPermutation-trans _ _ _ (IsPermutation-cons (values_of_leg l) _ _ holds.shows.legs)
              (IsPermutation-map shown_leg _ _ a.moved);
          claims = subst (λ rs. IsPermutation (map values_of_claim t.claims) (map shown_claim rs))
              (sym (a.others.1.1.1.1.1.0 (omega arith))) holds.shows.claims;
          transfers = subst (λ rs. IsPermutation (map values_of_transfer t.transfers) (map shown_transfer rs))
              (sym (a.others.1.1.1.1.1.1.0 (omega arith))) holds.shows.transfers;
          receipts = subst (λ rs. IsPermutation (map values_of_part t.receipts) (map shown_part rs))
              (sym (a.others.1.1.1.1.1.1.1.0 (omega arith))) holds.shows.receipts;
        };
        format = ap (map (λ r. column r 1)) (a.others.0 (omega arith)) ∙ holds.format;
        numbered = subst (IsShaped shape.Table) (sym (a.others.0 (omega arith))) holds.numbered;
        keyed = subst (IsShaped shape.Table) (sym (a.others.1.1.1.1.1.1.0 (omega arith))) holds.keyed;
      }

-- ---- claim
module _ (c : ClaimRow) where
  claim_news : (db : Trees) → (edit_of db claim_table [] Chosen 0 (value_rows (values_of_claim c) 7 1 claim_terms)).news
      ≡ (Int (next_rowid (db 10)) ∷ values_of_claim c) ∷ []
  claim_news db = simp (cast_int, cast_null)

  pub adds_claim : (old new : State) (t : Tables) (count : ℕ) → HoldsTables old.now t
      → Executes add_claim_text (values_of_claim c) old new (Ok count) → HoldsTables new.now (tables_with_claim c t)
  adds_claim old new t count holds h =
      let a = adds store_schema claim_table.name claim_table.tree claim_table.columns claim_table.key
      claim_table.primary claim_table.uniques claim_table.orders
      add_claim_text 5 claim_terms 7 (values_of_claim c) (λ db. Int (next_rowid (db 10)) ∷ values_of_claim c)
      add_claim_is.0 add_claim_is.1 refl claim_news old new count holds.shows.schema h in
      record {
        shows = record {
          schema = a.schema_is;
          units = subst (λ rs. IsPermutation (map values_of_unit t.units) (map shown_unit rs))
              (sym (a.others.1.0 (omega arith))) holds.shows.units;
          branches = subst (λ rs. IsPermutation (map values_of_branch t.branches) (map shown_branch rs))
              (sym (a.others.1.1.0 (omega arith))) holds.shows.branches;
          entries = subst (λ rs. IsPermutation (map values_of_entry t.entries) (map shown_entry rs))
              (sym (a.others.1.1.1.0 (omega arith))) holds.shows.entries;
          legs = subst (λ rs. IsPermutation (map values_of_leg t.legs) (map shown_leg rs))
              (sym (a.others.1.1.1.1.0 (omega arith))) holds.shows.legs;
          claims = IsPermutation-trans _ _ _ (IsPermutation-cons (values_of_claim c) _ _ holds.shows.claims)
              (IsPermutation-map shown_claim _ _ a.moved);
          transfers = subst (λ rs. IsPermutation (map values_of_transfer t.transfers) (map shown_transfer rs))
              (sym (a.others.1.1.1.1.1.1.0 (omega arith))) holds.shows.transfers;
          receipts = subst (λ rs. IsPermutation (map values_of_part t.receipts) (map shown_part rs))
              (sym (a.others.1.1.1.1.1.1.1.0 (omega arith))) holds.shows.receipts;
        };
        format = ap (map (λ r. column r 1)) (a.others.0 (omega arith)) ∙ holds.format;
        numbered = subst (IsShaped shape.Table) (sym (a.others.0 (omega arith))) holds.numbered;
        keyed = subst (IsShaped shape.Table) (sym (a.others.1.1.1.1.1.1.0 (omega arith))) holds.keyed;
      }

-- ---- transfer
module _ (x : TransferRow) where
  transfer_news : (db : Trees) → (edit_of db transfer_table [] Chosen 0
      (value_rows (values_of_transfer x) 10 1 transfer_terms)).news ≡ (Int (next_rowid (db 12)) ∷ values_of_transfer
      x) ∷ []
  transfer_news db = simp (cast_int, cast_null, cast_day, cast_words)

  pub adds_transfer : (old new : State) (t : Tables) (count : ℕ) → HoldsTables old.now t
      → Executes add_transfer_text (values_of_transfer x) old new (Ok count)
      → HoldsTables new.now (tables_with_transfer x t)
  adds_transfer old new t count holds h =
      let a = adds store_schema transfer_table.name transfer_table.tree transfer_table.columns transfer_table.key
      transfer_table.primary
      transfer_table.uniques transfer_table.orders add_transfer_text 6 transfer_terms 10 (values_of_transfer x)
      (λ db. Int (next_rowid (db 12)) ∷ values_of_transfer x) add_transfer_is.0 add_transfer_is.1 refl transfer_news old
      new count holds.shows.schema h in
      record {
        shows = record {
          schema = a.schema_is;
          units = subst (λ rs. IsPermutation (map values_of_unit t.units) (map shown_unit rs))
              (sym (a.others.1.0 (omega arith))) holds.shows.units;
          branches = subst (λ rs. IsPermutation (map values_of_branch t.branches) (map shown_branch rs))
              (sym (a.others.1.1.0 (omega arith))) holds.shows.branches;
          entries = subst (λ rs. IsPermutation (map values_of_entry t.entries) (map shown_entry rs))
              (sym (a.others.1.1.1.0 (omega arith))) holds.shows.entries;
          legs = subst (λ rs. IsPermutation (map values_of_leg t.legs) (map shown_leg rs))
              (sym (a.others.1.1.1.1.0 (omega arith))) holds.shows.legs;
          claims = subst (λ rs. IsPermutation (map values_of_claim t.claims) (map shown_claim rs))
              (sym (a.others.1.1.1.1.1.0 (omega arith))) holds.shows.claims;
          transfers = IsPermutation-trans _ _ _ (IsPermutation-cons (values_of_transfer x) _ _ holds.shows.transfers)
              (IsPermutation-map shown_transfer _ _ a.moved);
          receipts = subst (λ rs. IsPermutation (map values_of_part t.receipts) (map shown_part rs))
              (sym (a.others.1.1.1.1.1.1.1.0 (omega arith))) holds.shows.receipts;
        };
        format = ap (map (λ r. column r 1)) (a.others.0 (omega arith)) ∙ holds.format;
        numbered = subst (IsShaped shape.Table) (sym (a.others.0 (omega arith))) holds.numbered;
        keyed = subst (IsShaped shape.Table) (sym a.rows) (IsShaped-put_row _ (old.now.trees 12) refl holds.keyed);
      }

-- ---- receipt
module _ (p : PartRow) where
  part_news : (db : Trees) → (edit_of db receipt_table [] Chosen 0 (value_rows (values_of_part p) 6 1 part_terms)).news
      ≡ (Int (next_rowid (db 14)) ∷ values_of_part p) ∷ []
  part_news db = simp (cast_int, cast_null)

  pub adds_part : (old new : State) (t : Tables) (count : ℕ) → HoldsTables old.now t
      → Executes add_part_text (values_of_part p) old new (Ok count) → HoldsTables new.now (tables_with_part p t)
  adds_part old new t count holds h =
      let a = adds store_schema receipt_table.name receipt_table.tree receipt_table.columns receipt_table.key
      receipt_table.primary receipt_table.uniques
      receipt_table.orders add_part_text 7 part_terms 6 (values_of_part p)
      (λ db. Int (next_rowid (db 14)) ∷ values_of_part p)
      add_part_is.0 add_part_is.1 refl part_news old new count holds.shows.schema h in
      record {
        shows = record {
          schema = a.schema_is;
          units = subst (λ rs. IsPermutation (map values_of_unit t.units) (map shown_unit rs))
              (sym (a.others.1.0 (omega arith))) holds.shows.units;
          branches = subst (λ rs. IsPermutation (map values_of_branch t.branches) (map shown_branch rs))
              (sym (a.others.1.1.0 (omega arith))) holds.shows.branches;
          entries = subst (λ rs. IsPermutation (map values_of_entry t.entries) (map shown_entry rs))
              (sym (a.others.1.1.1.0 (omega arith))) holds.shows.entries;
          legs = subst (λ rs. IsPermutation (map values_of_leg t.legs) (map shown_leg rs))
              (sym (a.others.1.1.1.1.0 (omega arith))) holds.shows.legs;
          claims = subst (λ rs. IsPermutation (map values_of_claim t.claims) (map shown_claim rs))
              (sym (a.others.1.1.1.1.1.0 (omega arith))) holds.shows.claims;
          transfers = subst (λ rs. IsPermutation (map values_of_transfer t.transfers) (map shown_transfer rs))
              (sym (a.others.1.1.1.1.1.1.0 (omega arith))) holds.shows.transfers;
          receipts = IsPermutation-trans _ _ _ (IsPermutation-cons (values_of_part p) _ _ holds.shows.receipts)
              (IsPermutation-map shown_part _ _ a.moved);
        };
        format = ap (map (λ r. column r 1)) (a.others.0 (omega arith)) ∙ holds.format;
        numbered = subst (IsShaped shape.Table) (sym (a.others.0 (omega arith))) holds.numbered;
        keyed = subst (IsShaped shape.Table) (sym (a.others.1.1.1.1.1.1.0 (omega arith))) holds.keyed;
      }
