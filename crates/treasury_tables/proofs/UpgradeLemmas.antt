-- Version 1 of the tables made into version 2.
use Rattle.std.proofs.Common.{◌≡◌, ◌≢◌, List, [], ◌∷◌, map, drop, filter, true, false, None, Ok, pos, refl}
use Rattle.std.proofs.Common.{sym, ap, subst, subst₂, ◌∙◌, IsPermutation, ℕ, arith}
use Rattle.std.specs.List.{AllByRecursion}
use Rattle.std.proofs.lemmas.List.Sorted.{IsPermutation-map, IsPermutation-refl}
use Rattle.sqlite_keyed.proofs.ListLemmas.{map-map}
use Rattle.sqlite_trees.specs.View.{IsShaped}
use Rattle.sqlite_trees.specs.declared.store.Shape.TheVariants as shape
use Rattle.sqlite_rules.specs.Calls.{ids_of}
use Rattle.sqlite.specs.declared.types.Value.TheVariants.{Int}
use Rattle.sqlite.specs.declared.types.Value.TheVariants as value
use Rattle.sqlite.specs.Table.{Table}
use Rattle.sqlite.specs.Query.{Output, output}
use Rattle.sqlite.specs.Program.{overlay}
use Rattle.sqlite.specs.Order.{Row, column}
use Rattle.sqlite.specs.Command.TheVariants.{Update}
use Rattle.sqlite.specs.Edit.{Edit, edit_of, left_by, put_all}
use Rattle.sqlite.specs.Rowids.TheVariants.{Given}
use Rattle.sqlite.specs.Does.{Does}
use Rattle.sqlite.specs.Cast.{cast_row}
use Rattle.sqlite.specs.Change.{created, next_tree, KeepsRows}
use Rattle.sqlite.specs.Effect.{Database}
use Rattle.sqlite.specs.Listing.{understood}
use Rattle.sqlite.specs.State.{State, HasCleanDisk, IsUnchanged, Survives, mode_of, Executes}
use Rattle.sqlite.proofs.StateLemmas.{survives_then, survives_weaker}
use Rattle.sqlite.proofs.Callers.{statement_of, runs_as, one_permutation}
use Rattle.treasury_tables.specs.Tables.{format_table, receipt_table, store_schema, first_schema}
use Rattle.treasury_tables.specs.Rows.{Tables, HoldsTables, HoldsFirst, versions}
use Rattle.treasury_tables.specs.Rows.{values_of_unit, values_of_branch, values_of_entry, values_of_leg}
use Rattle.treasury_tables.specs.Rows.{values_of_claim, values_of_transfer, values_of_part}
use Rattle.treasury_tables.specs.Rows.{shown_unit, shown_branch, shown_entry, shown_leg, shown_claim, shown_transfer}
use Rattle.treasury_tables.specs.Rows.{shown_part}
use Rattle.treasury_tables.specs.Creating.{Makes}
use Rattle.treasury_tables.specs.Opening.{AreOursAlone, IsFirstVersion, IsFirstNumbered}
use Rattle.treasury_tables.specs.Upgrading.{SetsVersion, Upgrades, AreUpgraded}
use Rattle.treasury_tables.proofs.Steps.{updates}
use Rattle.treasury_tables.proofs.Texts.{second_text, second_terms, second_query, second_is}
use Rattle.treasury_tables.proofs.RowLemmas.{cast_int, numbered_given}
use Rattle.treasury_tables.proofs.QueryLemmas.{at, answer_is}
use Rattle.treasury_tables.proofs.KeyedLemmas.{without_chosen, shaped_puts}

-- ---- the row

-- the only row
one_row : {X : Type 0} (f : Row → X) (v : X) (rows : List Row) → map f rows ≡ v ∷ [] → (r : Row) × (rows ≡ r ∷ [])
one_row f v [] e = absurd (cc)
one_row f v (r ∷ []) e = (r, refl)
one_row f v (r ∷ s ∷ rows) e = absurd (cc)

-- what the query shows of it, and what is then stored
abbrev shown : Row → Row
shown r = column r 0 ∷ column r 0 ∷ Int (pos 2) ∷ []

abbrev recast : Row → Row
recast s = cast_row format_table (drop 1 s)

no_other : {X : Type 0} (xs : List X) → filter (λ _. false) xs ≡ []
no_other [] = refl
no_other (x ∷ xs) = no_other xs

two_stays : (r : Row) → column (recast (shown r)) 1 ≡ Int (pos 2)
two_stays r = cast_int (pos 2)

pub second_sets_version : (old new : State) (count : ℕ) → old.now.schema ≡ store_schema
    → versions old.now ≡ Int (pos 1) ∷ []
    → IsShaped shape.Table (old.now.trees 0) → Executes second_text [] old new (Ok count) → SetsVersion old.now new.now
second_sets_version old new count has version table h =
    let command = Update 0 (record { lets = []; body = second_query }) in
    let w = runs_as second_text [] old new store_schema has command second_is.0 second_is.1 count h in
    let text = statement_of second_text (understood store_schema second_text) in
    let done = subst (λ s. Does old.step_limit (mode_of old) [] (record old.now { schema = s }) text None command
    (Ok (w.tally, new.now))) has w.changed in
    let made = updates old.step_limit store_schema format_table.name format_table.tree format_table.columns
    format_table.key format_table.primary
    format_table.uniques format_table.orders [] old.now.trees w.tally new.now (mode_of old) 0
    (record { lets = []; body = second_query }) (λ _ _. refl) done in
    let db = old.now.trees in
    let got = made.0 in
    let a = made.3 in
    let one = one_row (λ r. column r 1) (Int (pos 1)) (db 0) version in
    let r = one.0 in
    let answer =
    answer_is [] 0 [] second_terms [] (λ _. true) (λ _. refl) (overlay db []) got (made.2.answer value.Null) in
    let shows : IsPermutation (map shown (filter (λ _. true) (db 0))) got =
    subst₂ IsPermutation (map-map (λ (o : Output). o.1) (λ r. output second_query (at [] r))
    (filter (λ _. true) (db 0))) (sym answer.3) (IsPermutation-map (λ (o : Output). o.1) _ _ answer.1) in
    let is_got : got ≡ shown r ∷ [] =
    one_permutation (shown r) got (subst (λ l. IsPermutation (map shown (filter (λ _. true) l)) got) one.1 shows) in
    let edit : Edit = edit_of db format_table (ids_of got) Given 1 got in
    let left : left_by db edit ≡ [] =
    without_chosen (db 0) table (λ _. true) shown (λ _. refl) got shows ∙ no_other (db 0) in
    let news : edit.news ≡ recast (shown r) ∷ [] =
    numbered_given (left_by db edit) (map recast got) ∙ ap (map recast) is_got in
    let rows : new.now.trees 0 ≡ recast (shown r) ∷ [] =
    a.rows ∙ (ap (λ l. put_all l edit.news) left ∙ ap (put_all []) news) in
    record {
      schema = made.1 ∙ sym has;
      version = ap (map (λ r. column r 1)) rows ∙ ap (λ v. v ∷ []) (two_stays r);
      numbered = subst (IsShaped shape.Table) (sym a.rows)
          (shaped_puts edit.news (left_by db edit) a.keyed (subst (IsShaped shape.Table) (sym left) (tt, tt)));
      others = subst (λ s. AllByRecursion (λ (t : Table). t.tree ≢ format_table.tree → new.now.trees t.tree ≡ db t.tree)
          s.tables) (sym has) a.tables;
    }

-- ---- both statements
pub upgrades_by_both : (a b c : Database) → a.schema ≡ first_schema → Makes receipt_table a b → SetsVersion b c
    → Upgrades a c
upgrades_by_both a b c has made set =
    let second : b.schema ≡ store_schema = made.schema ∙ ap (λ s. created s receipt_table) has in
    let kept = subst (λ s. KeepsRows s.tables a.trees b.trees) has made.others in
    let others = subst (λ s. AllByRecursion
    (λ (t : Table). t.tree ≢ format_table.tree → c.trees t.tree ≡ b.trees t.tree)
    s.tables) second set.others in
    record {
      schema = set.schema ∙ second;
      version = set.version;
      empty = others.1.1.1.1.1.1.1.0 (omega arith) ∙ subst (λ s. b.trees (next_tree s) ≡ []) has made.empty;
      numbered = set.numbered;
      others = (
        others.1.0 (omega arith) ∙ kept.1.0,
        (
          others.1.1.0 (omega arith) ∙ kept.1.1.0,
          (
            others.1.1.1.0 (omega arith) ∙ kept.1.1.1.0,
            (
              others.1.1.1.1.0 (omega arith) ∙ kept.1.1.1.1.0,
              (
                others.1.1.1.1.1.0 (omega arith) ∙ kept.1.1.1.1.1.0,
                (others.1.1.1.1.1.1.0 (omega arith) ∙ kept.1.1.1.1.1.1.0, tt),
              ),
            ),
          ),
        ),
      );
    }

-- the row is there still, between the statements
pub row_stays : (a b : Database) → a.schema ≡ first_schema → Makes receipt_table a b → b.trees 0 ≡ a.trees 0
row_stays a b has made = (subst (λ s. KeepsRows s.tables a.trees b.trees) has made.others).0

-- ---- what a crash leaves of an opening

-- where no more than a query was made
pub no_upgrade : (old mid : State) → Survives old mid (λ _. ⊥)
    → Survives old mid (λ trees. AreOursAlone old.now.schema → AreUpgraded old.now trees)
no_upgrade old mid left = survives_weaker old mid _ _ (λ clean trees none. absurd none) left

-- and where the upgrade stands after it
pub then_upgrade : (old mid new : State) → (HasCleanDisk mid → AreOursAlone old.now.schema → IsFirstVersion old.now)
    → Survives old mid (λ _. ⊥) → (HasCleanDisk mid → IsUnchanged old mid)
    → Survives mid new (λ trees. (db : Database) × (trees ≡ db.trees) × (IsFirstNumbered mid.now → Upgrades mid.now db))
    → Survives old new (λ trees. AreOursAlone old.now.schema → AreUpgraded old.now trees)
then_upgrade old mid new is_first one same two =
    survives_then old mid new _ _ _ (λ clean trees none. absurd none)
    (λ clean trees made ours.
    let clean_mid : HasCleanDisk mid = omega (arith, two.clean, clean) in
    let kept : mid.now ≡ old.now = (same clean_mid).0.now_is in
    let first = is_first clean_mid ours in
    record {
      first = first;
      db = made.0;
      is = made.1;
      upgrades = λ numbered. subst (λ (d : Database). Upgrades d made.0) kept
          (made.2 (subst IsFirstNumbered (sym kept) (first, numbered)));
    }) one two

-- ---- the tables hold version 2 of what they held
pub upgraded_holds : (a c : Database) (t : Tables) → HoldsFirst a t → Upgrades a c → HoldsTables c t
upgraded_holds a c t holds up = record {
  shows = record {
    schema = up.schema;
    units = subst (λ rs. IsPermutation (map values_of_unit t.units) (map shown_unit rs)) (sym up.others.0) holds.units;
    branches = subst (λ rs. IsPermutation (map values_of_branch t.branches) (map shown_branch rs)) (sym up.others.1.0)
        holds.branches;
    entries = subst (λ rs. IsPermutation (map values_of_entry t.entries) (map shown_entry rs)) (sym up.others.1.1.0)
        holds.entries;
    legs = subst (λ rs. IsPermutation (map values_of_leg t.legs) (map shown_leg rs)) (sym up.others.1.1.1.0) holds.legs;
    claims = subst (λ rs. IsPermutation (map values_of_claim t.claims) (map shown_claim rs)) (sym up.others.1.1.1.1.0)
        holds.claims;
    transfers = subst (λ rs. IsPermutation (map values_of_transfer t.transfers) (map shown_transfer rs))
        (sym up.others.1.1.1.1.1.0) holds.transfers;
    receipts =
        subst₂ (λ ps rs. IsPermutation (map values_of_part ps) (map shown_part rs)) (sym holds.receipts) (sym up.empty)
        (IsPermutation-refl []);
  };
  format = up.version;
  numbered = up.numbered;
  keyed = subst (IsShaped shape.Table) (sym up.others.1.1.1.1.1.0) holds.keyed;
}
