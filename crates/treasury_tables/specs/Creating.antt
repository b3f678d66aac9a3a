-- What `create` makes, in an empty database or beside other tables.
use Rattle.std.specs.Prelude.{◌≡◌, ℕ, Bool, Result, List, [], ◌∷◌, codes, map, pos, false, OnOk, IsTrue}
use Rattle.std.specs.List.{list_any, list_all, AllByRecursion}
use Rattle.sqlite.specs.declared.types.Value.TheVariants.{Int}
use Rattle.sqlite.specs.declared.error.Error.{Error}
use Rattle.sqlite.specs.Order.{column}
use Rattle.sqlite.specs.Table.{Table}
use Rattle.sqlite.specs.Schema.{Schema}
use Rattle.sqlite.specs.Change.{created, next_tree, KeepsRows}
use Rattle.sqlite.specs.Effect.{Database}
use Rattle.sqlite.specs.Store.{Ghosts}
use Rattle.sqlite.specs.State.{KeepsCommit, Survives}
use Rattle.sqlite.specs.Held.{Held, state}
use Rattle.sqlite_schema.specs.Names.{same_name}
use Rattle.sqlite_trees.specs.View.{IsShaped}
use Rattle.sqlite_trees.specs.declared.store.Shape.TheVariants as shape
use Rattle.treasury_tables.specs.Kept.{IsFaithful}
use Rattle.treasury_tables.specs.Tables.{format_table, state_tables, made_all, new_tables}

-- the names of the eight tables
abbrev pub our_names : List (List ℕ)
our_names = codes "format" ∷ codes "unit" ∷ codes "branch" ∷ codes "entry" ∷ codes "leg" ∷ codes "claim"
    ∷ codes "transfer" ∷ codes "receipt" ∷ []

-- those of version 1
abbrev pub first_names : List (List ℕ)
first_names =
    codes "format" ∷ codes "unit" ∷ codes "branch" ∷ codes "entry" ∷ codes "leg" ∷ codes "claim" ∷ codes "transfer" ∷ []

-- as SQLite compares names: the case of ASCII letters is nothing
abbrev pub is_ours : List ℕ → Bool
is_ours name = list_any (same_name name) our_names

-- a table has one of our names
abbrev pub has_one : Schema → Bool
has_one s = list_any (λ t. is_ours t.name) s.tables

-- each name of version 1 is that of a table
abbrev pub has_all : Schema → Bool
has_all s = list_all (λ name. list_any (λ t. same_name t.name name) s.tables) first_names

-- a table has the name that version 2 adds
abbrev pub has_receipt : Schema → Bool
has_receipt s = list_any (λ t. same_name t.name (codes "receipt")) s.tables

-- a table has AUTOINCREMENT
abbrev pub has_counter : Schema → Bool
has_counter s = list_any (λ t. t.is_counted) s.tables

-- the table is made, with no row, and each other table has the rows that it had
pub record Makes (table : Table) (old new : Database) : Type 0 where
  pub schema : new.schema ≡ created old.schema table
  pub empty : new.trees (next_tree old.schema) ≡ []
  pub others : KeepsRows old.schema.tables old.trees new.trees

-- the tables are made one after another, with no row, and each other table has the rows that it had
pub record MakesAll (ts : List Table) (old new : Database) : Type 0 where
  pub schema : new.schema ≡ made_all ts old.schema
  pub empty : AllByRecursion (λ (t : Table). new.trees t.tree ≡ []) (new_tables ts old.schema)
  pub others : KeepsRows old.schema.tables old.trees new.trees

-- `format`, which is the last table, gets its row, whose rowid is an integer, and each other table has the rows that it
-- had
pub record GivesRow (s : Schema) (old new : Database) : Type 0 where
  pub schema : new.schema ≡ created s format_table
  pub row : map (λ r. column r 1) (new.trees (next_tree s)) ≡ Int (pos 2) ∷ []
  pub numbered : IsShaped shape.Table (new.trees (next_tree s))
  pub others : KeepsRows s.tables old.trees new.trees

-- The tables of a new treasury stand beside the tables that were there, which have the rows that they had: `format` has
-- its row, whose rowid is an integer, the others none.
pub record Beside (old new : Database) : Type 0 where
  pub schema : new.schema ≡ made_all (format_table ∷ state_tables) old.schema
  pub version : map (λ r. column r 1) (new.trees (next_tree old.schema)) ≡ Int (pos 2) ∷ []
  pub numbered : IsShaped shape.Table (new.trees (next_tree old.schema))
  pub empty : AllByRecursion (λ (t : Table). new.trees t.tree ≡ [])
      (new_tables state_tables (created old.schema format_table))
  pub others : KeepsRows old.schema.tables old.trees new.trees

-- a crash leaves what it could leave before, or, where no table has AUTOINCREMENT, the tables of a new treasury beside
-- those that were there
abbrev pub SurvivesMaking : {S : Type 0} → Ghosts S → Held S → Held S → Type 0
SurvivesMaking g old new =
    Survives (state g old) (state g new)
    (λ trees. (db : Database) × (trees ≡ db.trees)
    × (has_counter (state g old).now.schema ≡ false → Beside (state g old).now db))

-- one CREATE inside a transaction, where no table has AUTOINCREMENT
pub record Creates {S : Type 0} (g : Ghosts S) (old new : Held S) (r : Result ℕ Error) (table : Table) : Type 0 where
  pub makes : IsFaithful g new
      → OnOk r (has_counter (state g old).now.schema ≡ false → Makes table (state g old).now (state g new).now)
  pub inside : IsFaithful g new → OnOk r (IsTrue (state g new).in_transaction)
  pub kept : IsFaithful g new → KeepsCommit (state g old) (state g new)
  pub survives : Survives (state g old) (state g new) (λ _. ⊥)
