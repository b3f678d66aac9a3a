-- What an INSERT of one row does to its table, and that it does nothing to any other.
use Rattle.std.proofs.Common.{◌≡◌, ◌≢◌, ℕ, ◌/◌, List, [], ◌∷◌, Bool, true, false, ◌&&◌, if◌then◌else◌, length}
use Rattle.std.proofs.Common.{slice_get, Option, Some, None, Ok, refl, sym, ap, subst, ◌∙◌, IsPermutation, flat_map}
use Rattle.std.proofs.Common.{filter_map}
use Rattle.std.specs.List.{AllByRecursion}
use Rattle.sqlite_schema.specs.declared.schema.Column.{Column}
use Rattle.sqlite_schema.specs.declared.schema.Keys.TheVariants.{Enforced}
use Rattle.sqlite_schema.specs.declared.schema.Reference.{Reference}
use Rattle.sqlite_schema.specs.Rules.{ParentKey}
use Rattle.sqlite_value.specs.declared.keys.Order.{Order}
use Rattle.sqlite_rules.specs.declared.action.Deed.{Deed}
use Rattle.sqlite_rules.specs.Action.{Work, works, work_by}
use Rattle.sqlite.specs.Order.{Row}
use Rattle.sqlite.specs.Table.{Table}
use Rattle.sqlite.specs.Schema.{Schema}
use Rattle.sqlite.specs.Term.{Term}
use Rattle.sqlite.specs.Source.TheVariants.{Values}
use Rattle.sqlite.specs.Command.TheVariants.{Insert}
use Rattle.sqlite.specs.Edit.{edit_of, is_taken, are_fresh, put_all}
use Rattle.sqlite.specs.Rowids.TheVariants.{Chosen}
use Rattle.sqlite.specs.Tree.{Trees, put_row}
use Rattle.sqlite.specs.Does.{Does}
use Rattle.sqlite.specs.Listing.{understood}
use Rattle.sqlite.specs.Effect.{Database, value_rows}
use Rattle.sqlite.specs.State.{State, mode_of, Executes}
use Rattle.sqlite.proofs.Callers.{IsPlain, command_of, statement_of, runs_as}
use Rattle.treasury_tables.proofs.Steps.{inserts, plain_table}
use Rattle.treasury_tables.proofs.RowLemmas.{put_permutes, not_taken}

-- ---- no table refers to what an INSERT adds
no_work : (b : Bool) (w : Work) → (if b && false then Some w else None) ≡ None
no_work true w = refl
no_work false w = refl

module _ (depth tree : ℕ) (child : Table) (ref : Reference) where
  none_by : (deed : Option Deed) (key : Option ParentKey) → work_by depth tree [] child ref deed key ≡ None
  none_by None key = refl
  none_by (Some d) None = refl
  none_by (Some d) (Some key) = no_work _ _

none_kept : {X Y : Type 0} (f : X → Option Y) → ((x : X) → f x ≡ None) → (xs : List X) → filter_map f xs ≡ []
none_kept f none [] = refl
none_kept f none (x ∷ xs) = rw (none x) (none_kept f none xs)

none_flat : {X Y : Type 0} (f : X → List Y) → ((x : X) → f x ≡ []) → (xs : List X) → flat_map f xs ≡ []
none_flat f none [] = refl
none_flat f none (x ∷ xs) = rw (none x) (none_flat f none xs)

pub works_none : (s : Schema) (tree : ℕ) (news : List Row) → works s Enforced 0 tree [] news ≡ []
works_none s tree news =
    none_flat _ (λ child. none_kept _ (λ ref. none_by 0 tree child ref _ _) child.references) s.tables

-- the row is put into the tree, and each other table of the schema has the rows that it had
pub record Adds (schema : Schema) (tree : ℕ) (row : Row) (old new : Database) : Type 0 where
  pub schema_is : new.schema ≡ schema
  pub rows : new.trees tree ≡ put_row row (old.trees tree)
  pub moved : IsPermutation (row ∷ old.trees tree) (new.trees tree)
  pub others : AllByRecursion (λ (t : Table). t.tree ≢ tree → new.trees t.tree ≡ old.trees t.tree) schema.tables

module _ (schema : Schema) (name : List ℕ) (tree : ℕ) (columns : List Column) (key : Option ℕ) (primary : List ℕ)
    (uniques : List (List ℕ)) (orders : List Order) where
  abbrev its_table : Table
  its_table = plain_table name tree columns key primary uniques orders

  module _ (sql : List ℕ) (at : ℕ) (terms : List Term) (width : ℕ) (row : Row) (stored : Trees → Row)
      (is : command_of (understood schema sql) ≡ Insert at (Values terms width))
      (plain : IsPlain (understood schema sql)) (got : slice_get schema.tables at ≡ Some its_table)
      (news_is : (db : Trees) → (edit_of db its_table [] Chosen 0
      (value_rows row width (length terms / width) terms)).news ≡ stored db ∷ []) where
    pub adds : (old new : State) (count : ℕ) → old.now.schema ≡ schema → Executes sql row old new (Ok count)
        → Adds schema tree (stored old.now.trees) old.now new.now
    adds old new count has h =
        let db = old.now.trees in
        let new_row = stored db in
        let w = runs_as sql row old new schema has (Insert at (Values terms width)) is plain count h in
        let text = statement_of sql (understood schema sql) in
        let done = subst (λ s. Does old.step_limit (mode_of old) row (record old.now { schema = s }) text None
        (Insert at (Values terms width)) (Ok (w.tally, new.now))) has w.changed in
        let made = inserts old.step_limit schema name tree columns key primary uniques orders row db w.tally new.now
        (mode_of old) at terms width (works_none schema tree) (rw got at done) in
        let a = made.1 in
        let news = news_is db in
        let free =
        not_taken (is_taken (db tree) new_row) _ (subst (λ ns. are_fresh (db tree) ns ≡ true) news a.fresh) in
        let rows : new.now.trees tree ≡ put_row new_row (db tree) = a.rows ∙ ap (put_all (db tree)) news in
        record {
          schema_is = made.0;
          rows = rows;
          moved = subst (IsPermutation (new_row ∷ db tree)) (sym rows) (put_permutes new_row (db tree) free.0);
          others = a.tables;
        }
