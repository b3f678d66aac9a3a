-- When the tables of a treasury are there: those of version 2, or those of version 1, which an opening makes into
-- version 2.
use Rattle.std.specs.Prelude.{◌≡◌, ◌⊎◌, pos, true, false, [], ◌∷◌}
use Rattle.sqlite.specs.declared.types.Value.TheVariants.{Int}
use Rattle.sqlite_trees.specs.View.{IsShaped}
use Rattle.sqlite_trees.specs.declared.store.Shape.TheVariants as shape
use Rattle.sqlite.specs.Schema.{Schema}
use Rattle.sqlite.specs.Effect.{Database}
use Rattle.treasury_tables.specs.Tables.{store_schema, first_schema, format_table}
use Rattle.treasury_tables.specs.Rows.{versions}
use Rattle.treasury_tables.specs.Creating.{has_all, has_receipt}

-- Tables with our names were made by our statements, in an empty database, and there is no other table, index or view:
-- with a table `receipt` they are those of version 2, without it those of version 1.
pub record AreOursAlone (s : Schema) : Type 0 where
  pub first : has_all s ≡ true → has_receipt s ≡ false → s ≡ first_schema
  pub second : has_all s ≡ true → has_receipt s ≡ true → s ≡ store_schema

-- the tables of version 1, with their one row of `format`
pub record IsFirstVersion (db : Database) : Type 0 where
  pub schema : db.schema ≡ first_schema
  pub version : versions db ≡ Int (pos 1) ∷ []

-- and the rowid of that row is an integer, as SQLite has no others
abbrev pub IsFirstNumbered : Database → Type 0
IsFirstNumbered db = IsFirstVersion db × IsShaped shape.Table (db.trees format_table.tree)

-- the tables of version 2, with their one row of `format`
pub record IsSecond (db : Database) : Type 0 where
  pub schema : db.schema ≡ store_schema
  pub version : versions db ≡ Int (pos 2) ∷ []

-- the tables of either
abbrev pub IsEither : Schema → Type 0
IsEither s = (s ≡ first_schema) ⊎ (s ≡ store_schema)
