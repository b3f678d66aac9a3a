-- What an INSERT of several rows does to its table, and that it does nothing to any other.
use Rattle.std.proofs.Common.{◌≡◌, ◌≢◌, ℕ, ℤ, ◌/◌, List, [], ◌∷◌, ◌++◌, map, drop, Bool, true, false, if◌then◌else◌}
use Rattle.std.proofs.Common.{length, slice_get, Option, Some, None, Ok, refl, sym, ap, ap₂, subst, ◌∙◌, IsPermutation}
use Rattle.std.specs.List.{AllByRecursion}
use Rattle.std.proofs.lemmas.List.Sorted.{IsPermutation-map}
use Rattle.std.proofs.lemmas.List.{map-append}
use Rattle.sqlite_schema.specs.declared.schema.Column.{Column}
use Rattle.sqlite_value.specs.declared.keys.Order.{Order}
use Rattle.sqlite_value.specs.declared.value.Value.TheVariants.{Int}
use Rattle.sqlite_rules.specs.Edit.{is_chosen, at_least, with_rowid}
use Rattle.sqlite_rules.specs.declared.error.Rowids.{Rowids}
use Rattle.sqlite_rules.specs.Cast.{cast_row}
use Rattle.sqlite.specs.Order.{Row}
use Rattle.sqlite.specs.Table.{Table}
use Rattle.sqlite.specs.Schema.{Schema}
use Rattle.sqlite.specs.Term.{Term}
use Rattle.sqlite.specs.Source.TheVariants.{Values}
use Rattle.sqlite.specs.Command.TheVariants.{Insert}
use Rattle.sqlite.specs.Edit.{edit_of, numbered, next_rowid}
use Rattle.sqlite.specs.Rowids.TheVariants.{Chosen}
use Rattle.sqlite.specs.Tree.{rowid, put_row}
use Rattle.sqlite.specs.Does.{Does}
use Rattle.sqlite.specs.Listing.{understood}
use Rattle.sqlite.specs.Effect.{Database, value_rows}
use Rattle.sqlite.specs.State.{State, mode_of, Executes}
use Rattle.sqlite.proofs.Callers.{IsPlain, command_of, statement_of, runs_as}
use Rattle.treasury_tables.proofs.Steps.{inserts, plain_table}
use Rattle.treasury_tables.proofs.RowLemmas.{puts_permute}
use Rattle.treasury_tables.proofs.AddLemmas.{works_none}

-- whatever rowids are chosen, the columns are those of the sources
drop_chosen_rowid : (b : Bool) (n : ℤ) (r : Row) → drop 1 (if b then Int n ∷ drop 1 r else r) ≡ drop 1 r
drop_chosen_rowid true n r = refl
drop_chosen_rowid false n r = refl

pub numbered_bare : (k : Rowids) (rows news : List Row) → map (drop 1) (numbered k rows news) ≡ map (drop 1) news
numbered_bare k rows [] = refl
numbered_bare k rows (r ∷ rs) =
    ap₂ ◌∷◌ (drop_chosen_rowid (is_chosen k (rowid r)) (at_least k (next_rowid rows)) r)
    (numbered_bare k (put_row (with_rowid k rows r) rows) rs)

-- the rows are put into the tree, under any rowids, and each other table of the schema has the rows that it had
pub record AddsAll (schema : Schema) (tree : ℕ) (rows : List Row) (old new : Database) : Type 0 where
  pub schema_is : new.schema ≡ schema
  pub moved : IsPermutation (rows ++ map (drop 1) (old.trees tree)) (map (drop 1) (new.trees tree))
  pub others : AllByRecursion (λ (t : Table). t.tree ≢ tree → new.trees t.tree ≡ old.trees t.tree) schema.tables

module _ (schema : Schema) (name : List ℕ) (tree : ℕ) (columns : List Column) (key : Option ℕ) (primary : List ℕ)
    (uniques : List (List ℕ)) (orders : List Order) where
  abbrev its_table : Table
  its_table = plain_table name tree columns key primary uniques orders

  module _ (sql : List ℕ) (at : ℕ) (terms : List Term) (width : ℕ) (params : Row) (rows : List Row)
      (is : command_of (understood schema sql) ≡ Insert at (Values terms width))
      (plain : IsPlain (understood schema sql)) (got : slice_get schema.tables at ≡ Some its_table)
      (rows_are : map (drop 1) (map (λ s. cast_row its_table (drop 0 s))
      (value_rows params width (length terms / width) terms)) ≡ rows) where
    pub adds_all : (old new : State) (count : ℕ) → old.now.schema ≡ schema → Executes sql params old new (Ok count)
        → AddsAll schema tree rows old.now new.now
    adds_all old new count has h =
        let db = old.now.trees in
        let w = runs_as sql params old new schema has (Insert at (Values terms width)) is plain count h in
        let text = statement_of sql (understood schema sql) in
        let done = subst (λ s. Does old.step_limit (mode_of old) params (record old.now { schema = s }) text None
        (Insert at (Values terms width)) (Ok (w.tally, new.now))) has w.changed in
        let made = inserts old.step_limit schema name tree columns key primary uniques orders params db w.tally new.now
        (mode_of old) at terms width (works_none schema tree) (rw got at done) in
        let a = made.1 in
        let sources = value_rows params width (length terms / width) terms in
        let news = (edit_of db its_table [] Chosen 0 sources).news in
        let put : IsPermutation (news ++ db tree) (new.now.trees tree) =
        subst (IsPermutation (news ++ db tree)) (sym a.rows) (puts_permute news (db tree) a.fresh) in
        let are : map (drop 1) news ≡ rows =
        numbered_bare Chosen (db tree) (map (λ s. cast_row its_table (drop 0 s)) sources) ∙ rows_are in
        let front : map (drop 1) (news ++ db tree) ≡ rows ++ map (drop 1) (db tree) =
        map-append (drop 1) news (db tree) ∙ ap (λ l. l ++ map (drop 1) (db tree)) are in
        record {
          schema_is = made.0;
          moved = subst (λ l. IsPermutation l (map (drop 1) (new.now.trees tree))) front
              (IsPermutation-map (drop 1) _ _ put);
          others = a.tables;
        }
