-- What an opening makes of the tables of version 1.
use Rattle.std.specs.Prelude.{◌≡◌, ◌≢◌, pos, [], ◌∷◌}
use Rattle.std.specs.List.{AllByRecursion}
use Rattle.sqlite.specs.declared.types.Value.TheVariants.{Int}
use Rattle.sqlite_trees.specs.View.{IsShaped}
use Rattle.sqlite_trees.specs.declared.store.Shape.TheVariants as shape
use Rattle.sqlite.specs.Table.{Table}
use Rattle.sqlite.specs.Tree.{Trees}
use Rattle.sqlite.specs.Effect.{Database}
use Rattle.sqlite.specs.Store.{Ghosts}
use Rattle.sqlite.specs.State.{Survives}
use Rattle.sqlite.specs.Held.{Held, state}
use Rattle.treasury_tables.specs.Tables.{format_table, receipt_table, first_tables, store_schema}
use Rattle.treasury_tables.specs.Rows.{versions}
use Rattle.treasury_tables.specs.Opening.{AreOursAlone, IsFirstVersion}

-- `format` has the row 2, and each other table the rows that it had
pub record SetsVersion (old new : Database) : Type 0 where
  pub schema : new.schema ≡ old.schema
  pub version : versions new ≡ Int (pos 2) ∷ []
  pub numbered : IsShaped shape.Table (new.trees format_table.tree)
  pub others : AllByRecursion (λ (t : Table). t.tree ≢ format_table.tree → new.trees t.tree ≡ old.trees t.tree)
      old.schema.tables

-- Version 2 of what was version 1: `receipt` is there and empty, the row of `format` is 2, and each other table has the
-- rows that it had.
pub record Upgrades (old new : Database) : Type 0 where
  pub schema : new.schema ≡ store_schema
  pub version : versions new ≡ Int (pos 2) ∷ []
  pub numbered : IsShaped shape.Table (new.trees format_table.tree)
  pub empty : new.trees receipt_table.tree ≡ []
  pub others : AllByRecursion (λ (t : Table). new.trees t.tree ≡ old.trees t.tree) first_tables

-- the trees of version 2 of what was version 1
pub record AreUpgraded (old : Database) (trees : Trees) : Type 0 where
  pub first : IsFirstVersion old
  pub db : Database
  pub is : trees ≡ db.trees
  pub upgrades : IsShaped shape.Table (old.trees format_table.tree) → Upgrades old db

-- If tables with our names were made by our statements, a crash leaves what it could leave before, or, of version 1,
-- its version 2.
abbrev pub KeepsOurs : {S : Type 0} → Ghosts S → Held S → Held S → Type 0
KeepsOurs g old new = Survives (state g old) (state g new)
    (λ trees. AreOursAlone (state g old).now.schema → AreUpgraded (state g old).now trees)
