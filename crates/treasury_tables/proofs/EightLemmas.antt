-- What the INSERTs of 8 rows do to the tables.
use Rattle.std.proofs.Common.{◌≡◌, ℕ, List, [], ◌∷◌, ◌++◌, map, drop, fold, Ok, refl, sym, ap, subst, ◌∙◌}
use Rattle.std.proofs.Common.{IsPermutation, arith}
use Rattle.std.proofs.lemmas.List.Sorted.{IsPermutation-refl, IsPermutation-middle, IsPermutation-append_right}
use Rattle.std.proofs.lemmas.List.Sorted.{IsPermutation-trans}
use Rattle.sqlite_trees.specs.View.{IsShaped}
use Rattle.sqlite_trees.specs.declared.store.Shape.TheVariants as shape
use Rattle.sqlite.specs.Order.{Row, column}
use Rattle.sqlite.specs.State.{State, Executes}
use Rattle.sqlite.specs.Effect.{value_rows}
use Rattle.sqlite_rules.specs.Cast.{cast_row}
use Rattle.treasury_state.specs.declared.rows.EntryRow.{EntryRow}
use Rattle.treasury_state.specs.declared.rows.LegRow.{LegRow}
use Rattle.treasury_state.specs.declared.rows.ClaimRow.{ClaimRow}
use Rattle.treasury_tables.specs.Tables.{entry_table, leg_table, claim_table, store_schema}
use Rattle.treasury_tables.specs.Rows.{Tables, HoldsTables, values_of_unit, values_of_branch, values_of_entry}
use Rattle.treasury_tables.specs.Rows.{values_of_leg, values_of_claim}
use Rattle.treasury_tables.specs.Rows.{values_of_transfer, values_of_part, shown_unit, shown_branch, shown_entry}
use Rattle.treasury_tables.specs.Rows.{shown_leg}
use Rattle.treasury_tables.specs.Rows.{shown_claim, shown_transfer, shown_part}
use Rattle.treasury_tables.proofs.EightTexts.{add_entry_eights_text, add_entry_eights_is, entry_eights_terms}
use Rattle.treasury_tables.proofs.EightTexts.{add_leg_eights_text, add_leg_eights_is, leg_eights_terms}
use Rattle.treasury_tables.proofs.EightTexts.{add_claim_eights_text, add_claim_eights_is, claim_eights_terms}
use Rattle.treasury_tables.proofs.RowLemmas.{cast_int, cast_null}
use Rattle.treasury_tables.proofs.ManyLemmas.{adds_all}
use Rattle.treasury_tables.proofs.ShownLemmas.{entries_moved, legs_moved, claims_moved}

-- the new rows, the last first, before those that were there
turned_on : {X : Type 0} (xs ys : List X) → IsPermutation (fold (λ l x. x ∷ l) ys xs) (xs ++ ys)
turned_on [] ys = IsPermutation-refl ys
turned_on (x ∷ xs) ys = IsPermutation-trans _ _ _ (turned_on xs (x ∷ ys)) (IsPermutation-middle xs x ys)

fold_cons_permutes : {X : Type 0} (xs ys zs all : List X) → IsPermutation ys zs → IsPermutation (xs ++ zs) all
    → IsPermutation (fold (λ l x. x ∷ l) ys xs) all
fold_cons_permutes xs ys zs all h k =
    IsPermutation-trans _ _ _ (turned_on xs ys) (IsPermutation-trans _ _ _ (IsPermutation-append_right xs _ _ h) k)

-- ---- entry
module _ (e1 e2 e3 e4 e5 e6 e7 e8 : EntryRow) where
  abbrev pub entry_eights : List EntryRow
  entry_eights = e1 ∷ e2 ∷ e3 ∷ e4 ∷ e5 ∷ e6 ∷ e7 ∷ e8 ∷ []

  abbrev pub entry_eights_params : Row
  entry_eights_params = (values_of_entry e1
      ++ (values_of_entry e2
      ++ (values_of_entry e3
      ++ (values_of_entry e4 ++ (values_of_entry e5
      ++ (values_of_entry e6 ++ (values_of_entry e7 ++ (values_of_entry e8 ++ []))))))))

  entry_eights_are : map (drop 1)
      (map (λ s. cast_row entry_table (drop 0 s)) (value_rows entry_eights_params 6 8 entry_eights_terms))
      ≡ map values_of_entry entry_eights
  entry_eights_are = simp (cast_int, cast_null)

  pub adds_entry_eights : (old new : State) (t : Tables) (count : ℕ) → HoldsTables old.now t
      → Executes add_entry_eights_text entry_eights_params old new (Ok count)
      → HoldsTables new.now (record t { entries = e8 ∷ e7 ∷ e6 ∷ e5 ∷ e4 ∷ e3 ∷ e2 ∷ e1 ∷ t.entries })
  adds_entry_eights old new t count holds h =
      let a = adds_all store_schema entry_table.name entry_table.tree entry_table.columns entry_table.key
      entry_table.primary entry_table.uniques
      entry_table.orders add_entry_eights_text 3 entry_eights_terms 6 entry_eights_params
      (map values_of_entry entry_eights)
      add_entry_eights_is.0 add_entry_eights_is.1 refl entry_eights_are old new count holds.shows.schema h in
      record {
        shows = record {
          schema = a.schema_is;
          units = subst (λ rs. IsPermutation (map values_of_unit t.units) (map shown_unit rs))
              (sym (a.others.1.0 (omega arith))) holds.shows.units;
          branches = subst (λ rs. IsPermutation (map values_of_branch t.branches) (map shown_branch rs))
              (sym (a.others.1.1.0 (omega arith))) holds.shows.branches;
          entries = fold_cons_permutes (map values_of_entry entry_eights) (map values_of_entry t.entries) _ _
              holds.shows.entries (entries_moved (map values_of_entry entry_eights) _ _ refl a.moved);
          legs = subst (λ rs. IsPermutation (map values_of_leg t.legs) (map shown_leg rs))
              (sym (a.others.1.1.1.1.0 (omega arith))) holds.shows.legs;
          claims = subst (λ rs. IsPermutation (map values_of_claim t.claims) (map shown_claim rs))
              (sym (a.others.1.1.1.1.1.0 (omega arith))) holds.shows.claims;
          transfers = subst (λ rs. IsPermutation (map values_of_transfer t.transfers) (map shown_transfer rs))
              (sym (a.others.1.1.1.1.1.1.0 (omega arith))) holds.shows.transfers;
          receipts = subst (λ rs. IsPermutation (map values_of_part t.receipts) (map shown_part rs))
              (sym (a.others.1.1.1.1.1.1.1.0 (omega arith))) holds.shows.receipts;
        };
        format = ap (map (λ r. column r 1)) (a.others.0 (omega arith)) ∙ holds.format;
        numbered = subst (IsShaped shape.Table) (sym (a.others.0 (omega arith))) holds.numbered;
        keyed = subst (IsShaped shape.Table) (sym (a.others.1.1.1.1.1.1.0 (omega arith))) holds.keyed;
      }

-- ---- leg
module _ (l1 l2 l3 l4 l5 l6 l7 l8 : LegRow) where
  abbrev pub leg_eights : List LegRow
  leg_eights = l1 ∷ l2 ∷ l3 ∷ l4 ∷ l5 ∷ l6 ∷ l7 ∷ l8 ∷ []

  abbrev pub leg_eights_params : Row
  leg_eights_params = (values_of_leg l1
      ++ (values_of_leg l2
      ++ (values_of_leg l3 ++ (values_of_leg l4
      ++ (values_of_leg l5 ++ (values_of_leg l6 ++ (values_of_leg l7 ++ (values_of_leg l8 ++ []))))))))

  leg_eights_are : map (drop 1) (map (λ s. cast_row leg_table (drop 0 s))
      (value_rows leg_eights_params 7 8 leg_eights_terms)) ≡ map values_of_leg leg_eights
  leg_eights_are = simp (cast_int, cast_null)

  pub adds_leg_eights : (old new : State) (t : Tables) (count : ℕ) → HoldsTables old.now t
      → Executes add_leg_eights_text leg_eights_params old new (Ok count)
      → HoldsTables new.now (record t { legs = l8 ∷ l7 ∷ l6 ∷ l5 ∷ l4 ∷ l3 ∷ l2 ∷ l1 ∷ t.legs })
  adds_leg_eights old new t count holds h =
      let a = adds_all store_schema leg_table.name leg_table.tree leg_table.columns leg_table.key leg_table.primary
      leg_table.uniques leg_table.orders
      add_leg_eights_text 4 leg_eights_terms 7 leg_eights_params (map values_of_leg leg_eights) add_leg_eights_is.0
      add_leg_eights_is.1 refl leg_eights_are old new count holds.shows.schema h in
      record {
        shows = record {
          schema = a.schema_is;
          units = subst (λ rs. IsPermutation (map values_of_unit t.units) (map shown_unit rs))
              (sym (a.others.1.0 (omega arith))) holds.shows.units;
          branches = subst (λ rs. IsPermutation (map values_of_branch t.branches) (map shown_branch rs))
              (sym (a.others.1.1.0 (omega arith))) holds.shows.branches;
          entries = subst (λ rs. IsPermutation (map values_of_entry t.entries) (map shown_entry rs))
              (sym (a.others.1.1.1.0 (omega arith))) holds.shows.entries;
          legs = fold_cons_permutes (map values_of_leg leg_eights) (map values_of_leg t.legs) _ _ holds.shows.legs
              (legs_moved (map values_of_leg leg_eights) _ _ refl a.moved);
          claims = subst (λ rs. IsPermutation (map values_of_claim t.claims) (map shown_claim rs))
              (sym (a.others.1.1.1.1.1.0 (omega arith))) holds.shows.claims;
          transfers = subst (λ rs. IsPermutation (map values_of_transfer t.transfers) (map shown_transfer rs))
              (sym (a.others.1.1.1.1.1.1.0 (omega arith))) holds.shows.transfers;
          receipts = subst (λ rs. IsPermutation (map values_of_part t.receipts) (map shown_part rs))
              (sym (a.others.1.1.1.1.1.1.1.0 (omega arith))) holds.shows.receipts;
        };
        format = ap (map (λ r. column r 1)) (a.others.0 (omega arith)) ∙ holds.format;
        numbered = subst (IsShaped shape.Table) (sym (a.others.0 (omega arith))) holds.numbered;
        keyed = subst (IsShaped shape.Table) (sym (a.others.1.1.1.1.1.1.0 (omega arith))) holds.keyed;
      }

-- ---- claim
module _ (c1 c2 c3 c4 c5 c6 c7 c8 : ClaimRow) where
  abbrev pub claim_eights : List ClaimRow
  claim_eights = c1 ∷ c2 ∷ c3 ∷ c4 ∷ c5 ∷ c6 ∷ c7 ∷ c8 ∷ []

  abbrev pub claim_eights_params : Row
  claim_eights_params = (values_of_claim c1
      ++ (values_of_claim c2
      ++ (values_of_claim c3
      ++ (values_of_claim c4 ++ (values_of_claim c5
      ++ (values_of_claim c6 ++ (values_of_claim c7 ++ (values_of_claim c8 ++ []))))))))

  claim_eights_are : map (drop 1)
      (map (λ s. cast_row claim_table (drop 0 s)) (value_rows claim_eights_params 7 8 claim_eights_terms))
      ≡ map values_of_claim claim_eights
  claim_eights_are = simp (cast_int, cast_null)

  pub adds_claim_eights : (old new : State) (t : Tables) (count : ℕ) → HoldsTables old.now t
      → Executes add_claim_eights_text claim_eights_params old new (Ok count)
      → HoldsTables new.now (record t { claims = c8 ∷ c7 ∷ c6 ∷ c5 ∷ c4 ∷ c3 ∷ c2 ∷ c1 ∷ t.claims })
  adds_claim_eights old new t count holds h =
      let a = adds_all store_schema claim_table.name claim_table.tree claim_table.columns claim_table.key
      claim_table.primary claim_table.uniques
      claim_table.orders add_claim_eights_text 5 claim_eights_terms 7 claim_eights_params
      (map values_of_claim claim_eights)
      add_claim_eights_is.0 add_claim_eights_is.1 refl claim_eights_are old new count holds.shows.schema h in
      record {
        shows = record {
          schema = a.schema_is;
          units = subst (λ rs. IsPermutation (map values_of_unit t.units) (map shown_unit rs))
              (sym (a.others.1.0 (omega arith))) holds.shows.units;
          branches = subst (λ rs. IsPermutation (map values_of_branch t.branches) (map shown_branch rs))
              (sym (a.others.1.1.0 (omega arith))) holds.shows.branches;
          entries = subst (λ rs. IsPermutation (map values_of_entry t.entries) (map shown_entry rs))
              (sym (a.others.1.1.1.0 (omega arith))) holds.shows.entries;
          legs = subst (λ rs. IsPermutation (map values_of_leg t.legs) (map shown_leg rs))
              (sym (a.others.1.1.1.1.0 (omega arith))) holds.shows.legs;
          claims = fold_cons_permutes (map values_of_claim claim_eights) (map values_of_claim t.claims) _ _
              holds.shows.claims (claims_moved (map values_of_claim claim_eights) _ _ refl a.moved);
          transfers = subst (λ rs. IsPermutation (map values_of_transfer t.transfers) (map shown_transfer rs))
              (sym (a.others.1.1.1.1.1.1.0 (omega arith))) holds.shows.transfers;
          receipts = subst (λ rs. IsPermutation (map values_of_part t.receipts) (map shown_part rs))
              (sym (a.others.1.1.1.1.1.1.1.0 (omega arith))) holds.shows.receipts;
        };
        format = ap (map (λ r. column r 1)) (a.others.0 (omega arith)) ∙ holds.format;
        numbered = subst (IsShaped shape.Table) (sym (a.others.0 (omega arith))) holds.numbered;
        keyed = subst (IsShaped shape.Table) (sym (a.others.1.1.1.1.1.1.0 (omega arith))) holds.keyed;
      }
