-- The tables of a new treasury, where other tables stand about or none.
use Rattle.std.proofs.Common.{◌≡◌, ◌≢◌, ℕ, ◌+◌, ◌<◌, ◌≤◌, max, Bool, true, false, ◌||◌, List, [], ◌∷◌, ◌++◌, map}
use Rattle.std.proofs.Common.{length, slice_get, codes, Some, Ok, pos, refl, sym, ap, subst, ◌∙◌, arith, fold}
use Rattle.std.proofs.Common.{IsPermutation, if◌then◌else◌}
use Rattle.std.specs.List.{list_any, AllByRecursion, position_from}
use Rattle.std.proofs.lemmas.List.Sorted.{IsPermutation-refl}
use Rattle.sqlite_schema.specs.Names.{same_name, table_named}
use Rattle.sqlite_trees.specs.View.{IsShaped}
use Rattle.sqlite_trees.specs.declared.store.Shape.TheVariants as shape
use Rattle.sqlite_trees.proofs.TreeLemmas.{IsShaped-put_row}
use Rattle.sqlite.specs.Order.{column}
use Rattle.sqlite.specs.Table.{Table}
use Rattle.sqlite.specs.Schema.{Schema}
use Rattle.sqlite.specs.Change.{created, next_tree, past_views, KeepsRows}
use Rattle.sqlite.specs.Effect.{Database, value_rows}
use Rattle.sqlite.specs.Tree.{Trees, put_row}
use Rattle.sqlite.specs.Edit.{edit_of, next_rowid}
use Rattle.sqlite.specs.Rowids.TheVariants.{Chosen}
use Rattle.sqlite.specs.declared.types.Value.TheVariants.{Int}
use Rattle.sqlite.specs.Store.{Ghosts}
use Rattle.sqlite.specs.State.{State, Survives, Executes}
use Rattle.sqlite.specs.Held.{Held, state}
use Rattle.sqlite.proofs.StateLemmas.{survives_then}
use Rattle.money_core.proofs.ListLemmas.{all_front, all_behind}
use Rattle.treasury_tables.specs.Kept.{IsFaithful}
use Rattle.treasury_tables.specs.Tables.{format_table, state_tables, made_all, new_tables, no_schema, store_schema}
use Rattle.treasury_tables.specs.Rows.{HoldsTables, no_rows, values_of_format, shown_unit, shown_branch, shown_entry}
use Rattle.treasury_tables.specs.Rows.{shown_leg, shown_claim, shown_transfer, shown_part}
use Rattle.treasury_tables.specs.Creating.{Makes, MakesAll, GivesRow, Beside, is_ours, has_one, has_counter}
use Rattle.treasury_tables.proofs.CreateLemmas.{kept_twice, stays_uncounted}
use Rattle.treasury_tables.proofs.Texts.{add_format_text, format_terms}
use Rattle.treasury_tables.proofs.AnySchema.{adds_format}
use Rattle.treasury_tables.proofs.AddLemmas.{adds}
use Rattle.treasury_tables.proofs.RowLemmas.{cast_int, cast_null}

-- ---- the last table
last_named : {X : Type 0} (p : X → Bool) (from : ℕ) (xs : List X) (y : X) → list_any p xs ≡ false → p y ≡ true
    → position_from p from (xs ++ y ∷ []) ≡ Some (from + length xs)
last_named p from [] y none e = rw e (ap Some (omega arith))
last_named {X} p from (x ∷ xs) y none e = go (p x) none (last_named p (from + 1) xs y)
  where
    go : (b : Bool) → (b || list_any p xs) ≡ false
        → (list_any p xs ≡ false → p y ≡ true → position_from p (from + 1) (xs ++ y ∷ []) ≡ Some (from + 1 + length xs))
        → (if b then Some from else position_from p (from + 1) (xs ++ y ∷ [])) ≡ Some (from + length (x ∷ xs))
    go true h more = absurd (cc)
    go false h more = more h e ∙ ap Some (omega arith)

last_got : {X : Type 0} (xs : List X) (y : X) → slice_get (xs ++ y ∷ []) (length xs) ≡ Some y
last_got [] y = refl
last_got (x ∷ xs) y = last_got xs y

-- ---- trees of other tables
abbrev above : {X : Type 0} → (X → ℕ) → ℕ → List X → ℕ
above f = fold (λ n x. max n (f x + 1))

above_grows : {X : Type 0} (f : X → ℕ) (xs : List X) (n : ℕ) → n ≤ above f n xs
above_grows f [] n = omega arith
above_grows f (x ∷ xs) n = omega (arith, above_grows f xs (max n (f x + 1)))

low_all : {X : Type 0} (f : X → ℕ) (xs : List X) (n : ℕ) → AllByRecursion (λ x. f x < above f n xs) xs
low_all f [] n = tt
low_all f (x ∷ xs) n = (omega (arith, above_grows f xs (max n (f x + 1))), low_all f xs (max n (f x + 1)))

kept_below : (m n : ℕ) (ts : List Table) (a b : Trees) → m ≤ n → AllByRecursion (λ t. t.tree < m) ts
    → AllByRecursion (λ t. t.tree ≢ n → b t.tree ≡ a t.tree) ts → KeepsRows ts a b
kept_below m n [] a b le low keep = tt
kept_below m n (t ∷ ts) a b le low keep = (keep.0 (omega (arith, low.0)), kept_below m n ts a b le low.1 keep.1)

-- ---- the row
named_format : same_name (codes "format") (codes "format") ≡ true
unfolding same_name
named_format = refl

abbrev here : Schema → Table
here s = record format_table { tree = next_tree s }

news_is : (n : ℕ) (db : Trees) → (edit_of db (record format_table { tree = n }) [] Chosen 0
    (value_rows values_of_format 2 1 format_terms)).news ≡ (Int (next_rowid (db n)) ∷ values_of_format) ∷ []
news_is n db = simp (cast_int, cast_null)

pub gives_row : (s : Schema) (old new : State) (count : ℕ) → old.now.schema ≡ created s format_table
    → list_any (λ t. same_name t.name (codes "format")) s.tables ≡ false → old.now.trees (next_tree s) ≡ []
    → Executes add_format_text values_of_format old new (Ok count) → GivesRow s old.now new.now
gives_row s old new count has free bare h =
    let whole = created s format_table in
    let at = length s.tables in
    let n = next_tree s in
    let named : table_named whole (codes "format") ≡ Some at =
    last_named (λ t. same_name t.name (codes "format")) 0 s.tables (here s) free named_format ∙ ap Some
    (omega arith) in
    let got : slice_get whole.tables at ≡ Some (here s) = last_got s.tables (here s) in
    let is = adds_format whole at n named got in
    let a = adds whole format_table.name n format_table.columns format_table.key format_table.primary
    format_table.uniques format_table.orders
    add_format_text at format_terms 2 values_of_format (λ db. Int (next_rowid (db n)) ∷ values_of_format) is.0 is.1 got
    (news_is n) old new count has h in
    let put : new.now.trees n ≡ put_row (Int (pos 1) ∷ values_of_format) [] =
    a.rows ∙ ap (λ rs. put_row (Int (next_rowid rs) ∷ values_of_format) rs) bare in
    let only : new.now.trees n ≡ (Int (pos 1) ∷ values_of_format) ∷ [] = put in
    record {
      schema = a.schema_is;
      row = ap (map (λ r. column r 1)) only;
      numbered =
          subst (IsShaped shape.Table) (sym put) (IsShaped-put_row (Int (pos 1) ∷ values_of_format) [] refl (tt, tt));
      others = kept_below (above (λ (t : Table). t.tree) (past_views s) s.tables) n s.tables old.now.trees new.now.trees
          (above_grows (λ i. i.tree) s.indexes _) (low_all (λ (t : Table). t.tree) s.tables (past_views s))
          (all_front _ s.tables _ a.others);
    }

-- ---- all of it
or_false_left : (a b : Bool) → (a || b) ≡ false → a ≡ false
or_false_left true b h = absurd (cc)
or_false_left false b h = refl

no_format : (ts : List Table) → list_any (λ t. is_ours t.name) ts ≡ false
    → list_any (λ t. same_name t.name (codes "format")) ts ≡ false
no_format [] none = refl
no_format (t ∷ ts) none = go (is_ours t.name) refl none (no_format ts)
  where
    go : (b : Bool) → is_ours t.name ≡ b → (b || list_any (λ t. is_ours t.name) ts) ≡ false
        → (list_any (λ t. is_ours t.name) ts ≡ false → list_any (λ t. same_name t.name (codes "format")) ts ≡ false)
        → (same_name t.name (codes "format") || list_any (λ t. same_name t.name (codes "format")) ts) ≡ false
    go true e h more = absurd (cc)
    go false e h more = ap (λ b. b || list_any (λ t. same_name t.name (codes "format")) ts)
        (or_false_left (same_name t.name (codes "format")) _ e) ∙ more h

pub no_format_in : (s : Schema) → has_one s ≡ false → list_any (λ t. same_name t.name (codes "format")) s.tables ≡ false
no_format_in s none = no_format s.tables none

pub whole_beside : (a b c d : Database) → Makes format_table a b → GivesRow a.schema b c → MakesAll state_tables c d
    → Beside a d
whole_beside a b c d p row q =
    let f : Table = record format_table { tree = next_tree a.schema } in
    let all : KeepsRows (a.schema.tables ++ f ∷ []) c.trees d.trees =
    subst (λ s. KeepsRows s.tables c.trees d.trees) row.schema q.others in
    record {
      schema = q.schema ∙ ap (made_all state_tables) row.schema;
      version = ap (map (λ r. column r 1))
          (all_behind (λ (t : Table). d.trees t.tree ≡ c.trees t.tree) a.schema.tables (f ∷ []) all).0 ∙ row.row;
      numbered = subst (IsShaped shape.Table)
          (sym (all_behind (λ (t : Table). d.trees t.tree ≡ c.trees t.tree) a.schema.tables (f ∷ []) all).0)
          row.numbered;
      empty = subst (λ s. AllByRecursion (λ (t : Table). d.trees t.tree ≡ []) (new_tables state_tables s)) row.schema
          q.empty;
      others =
          kept_twice a.schema.tables a.trees c.trees d.trees
          (kept_twice a.schema.tables a.trees b.trees c.trees p.others row.others)
          (all_front (λ (t : Table). d.trees t.tree ≡ c.trees t.tree) a.schema.tables (f ∷ []) all);
    }

-- in the schema each of our tables has the number with which it is defined
pub schema_numbers : store_schema.tables ≡ format_table ∷ state_tables
schema_numbers = refl

-- in an empty database
pub holds_none : (a d : Database) → a.schema ≡ no_schema → Beside a d → HoldsTables d no_rows
holds_none a d none made =
    let empty : AllByRecursion (λ (t : Table). d.trees t.tree ≡ [])
    (new_tables state_tables (created no_schema format_table)) =
    subst (λ s. AllByRecursion (λ (t : Table). d.trees t.tree ≡ []) (new_tables state_tables (created s format_table)))
    none made.empty in
    record {
      shows = record {
        schema = made.schema ∙ ap (made_all (format_table ∷ state_tables)) none;
        units = subst (λ rows. IsPermutation [] (map shown_unit rows)) (sym empty.0) (IsPermutation-refl []);
        branches = subst (λ rows. IsPermutation [] (map shown_branch rows)) (sym empty.1.0) (IsPermutation-refl []);
        entries = subst (λ rows. IsPermutation [] (map shown_entry rows)) (sym empty.1.1.0) (IsPermutation-refl []);
        legs = subst (λ rows. IsPermutation [] (map shown_leg rows)) (sym empty.1.1.1.0) (IsPermutation-refl []);
        claims = subst (λ rows. IsPermutation [] (map shown_claim rows)) (sym empty.1.1.1.1.0) (IsPermutation-refl []);
        transfers = subst (λ rows. IsPermutation [] (map shown_transfer rows)) (sym empty.1.1.1.1.1.0)
            (IsPermutation-refl []);
        receipts = subst (λ rows. IsPermutation [] (map shown_part rows)) (sym empty.1.1.1.1.1.1.0)
            (IsPermutation-refl []);
      };
      format = subst (λ s. map (λ r. column r 1) (d.trees (next_tree s)) ≡ Int (pos 2) ∷ []) none made.version;
      numbered = subst (λ s. IsShaped shape.Table (d.trees (next_tree s))) none made.numbered;
      keyed = subst (IsShaped shape.Table) (sym empty.1.1.1.1.1.0) (tt, tt);
    }

-- the tables, the row of `format` and the tables of the state, one after another inside a transaction
pub made_beside : {S : Type 0} (g : Ghosts S) (old first mid last : Held S) → has_one (state g old).now.schema ≡ false
    → (IsFaithful g first → has_counter (state g old).now.schema ≡ false
    → Makes format_table (state g old).now (state g first).now)
    → (IsFaithful g mid → (s : Schema) → (state g first).now.schema ≡ created s format_table
    → list_any (λ t. same_name t.name (codes "format")) s.tables ≡ false
    → (state g first).now.trees (next_tree s) ≡ [] → GivesRow s (state g first).now (state g mid).now)
    → (IsFaithful g last → has_counter (state g mid).now.schema ≡ false
    → MakesAll state_tables (state g mid).now (state g last).now)
    → Survives (state g first) (state g mid) (λ _. ⊥) → Survives (state g mid) (state g last) (λ _. ⊥)
    → IsFaithful g last → has_counter (state g old).now.schema ≡ false
    → Beside (state g old).now (state g last).now
made_beside g old first mid last free makes gives rest one two clean_last none =
    let clean_mid : IsFaithful g mid = omega (arith, two.clean, clean_last) in
    let clean_first : IsFaithful g first = omega (arith, one.clean, clean_mid) in
    let made = makes clean_first none in
    let row =
    gives clean_mid (state g old).now.schema made.schema (no_format_in (state g old).now.schema free) made.empty in
    whole_beside _ _ _ _ made row (rest clean_last
    (ap has_counter row.schema ∙ stays_uncounted (state g old).now.schema format_table refl none))

-- and nothing is committed meanwhile
pub made_in : {S : Type 0} (g : Ghosts S) (old first mid last : Held S)
    → Survives (state g (record old { in_transaction = true })) (state g first) (λ _. ⊥)
    → Survives (state g first) (state g mid) (λ _. ⊥) → Survives (state g mid) (state g last) (λ _. ⊥)
    → Survives (state g (record old { in_transaction = true })) (state g last) (λ _. ⊥)
made_in g old first mid last one two three =
    survives_then (state g (record old { in_transaction = true })) (state g mid) (state g last) _ _ _
    (λ _ db none. none) (λ _ db none. none)
    (survives_then (state g (record old { in_transaction = true })) (state g first) (state g mid) _ _ _
    (λ _ db none. none) (λ _ db none. none) one two) three
