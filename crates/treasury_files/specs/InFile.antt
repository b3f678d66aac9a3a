-- What a database file holds, and what `init` makes in one (own rules; docs/RULES.md, "The program"), while the disk
-- returns what was written. An image is what the two files, the database and its log, hold.
use Rattle.std.specs.Prelude.{◌≡◌, ◌⊎◌, ℕ, false}
use Rattle.std.specs.Prelude.{IsTrue}
use Rattle.sqlite_disk.specs.declared.Disk as disk
use Rattle.sqlite_disk.specs.declared.Files.{Files}
use Rattle.sqlite_wal.specs.Recovery.{Image}
use Rattle.sqlite_wal.specs.Reads.{AreClean}
use Rattle.sqlite_store.specs.declared.store.FileStore.{FileStore}
use Rattle.sqlite.specs.Effect.{Database, IsDatabase}
use Rattle.sqlite.specs.Held.{Held}
use Rattle.sqlite.specs.Start.{FindsIn}
use Rattle.sqlite.specs.Files.{file_state, IsOpened}
use Rattle.sqlite.specs.Closing.{HoldsAlone}
use Rattle.treasury_state.specs.Federation.{Federation}
use Rattle.treasury_state.specs.Good.{IsGoodState}
use Rattle.treasury_state.specs.Rows.{rows}
use Rattle.treasury_tables.specs.Rows.{HoldsTables, HoldsEither, ShowsTables}
use Rattle.treasury_tables.specs.Tables.{no_schema}
use Rattle.treasury_tables.specs.Creating.{has_one, has_all}
use Rattle.treasury_tables.specs.Opening.{AreOursAlone, IsFirstVersion, IsFirstNumbered, IsSecond}
use Rattle.treasury_tables.specs.Upgrading.{Upgrades}
use Rattle.treasury_store.specs.Store.{empty_state}
use Rattle.treasury_files.specs.declared.left.Left.{Left}
use Rattle.treasury_files.specs.declared.left.Left.TheVariants.{Closed}
use Rattle.treasury_files.specs.Left.{IsImageOf}

-- how many bytes of a journal are read at most: one more than a text may have, so that a longer one is seen to be
abbrev pub most_journal : ℕ
most_journal = 1_048_577

-- The files hold tables that are the rows of a good state, and so does the database file with no log beside it.
pub record HoldsState (image : Image) (f : Federation) : Type 0 where
  pub good : IsGoodState f
  pub db : Database
  pub listed : IsDatabase db
  pub tables : HoldsTables db (rows f)
  pub alone : HoldsAlone image db.trees

-- the tables of a database are the rows of a good state, as a query reads them
abbrev pub ShowsGoodRows : Database → Type 0
ShowsGoodRows db = (f : Federation) × IsGoodState f × ShowsTables db (rows f)

-- A database has a treasury: tables with our names. If our statements made them, and it has no others, they are those
-- of version 2, with the rows of a good state, or those of version 1, whose version 2 has such rows, where the rowid of
-- the row of `format` is an integer, as SQLite has no others.
pub record HasTreasury (db : Database) : Type 0 where
  pub named : IsTrue (has_all db.schema)
  pub version : AreOursAlone db.schema → IsFirstVersion db ⊎ IsSecond db
  pub second : IsSecond db → ShowsGoodRows db
  pub first : IsFirstNumbered db → (next : Database) × Upgrades db next × ShowsGoodRows next

module _ {D : Type 0} (g : disk.Ghosts D) where
  -- a connection shows tables, of version 2 or of version 1, that are the rows of a good state
  pub record ShowsState (c : Held (FileStore D g)) (f : Federation) : Type 0 where
    pub good : IsGoodState f
    pub holds : HoldsEither (file_state c).now (rows f)

  -- The files that were closed hold the rows of a state, as they read and as a crash may leave them.
  abbrev pub LeavesState : Files D → Federation → Type 0
  LeavesState closed f = (left : Image) → IsImageOf g closed.log closed.db left → HoldsState left f

  -- A file was opened and closed, and that is what is left. What its connection showed first is what the image holds.
  -- Where that is no table, the file that is closed holds the rows of a state that has nothing; in no case was there a
  -- table with one of our names.
  pub record MakesOver (image : Image) (left : Left D g) : Type 0 where
    pub opened : Held (FileStore D g)
    pub closed : Files D
    pub is_left : left ≡ Closed closed
    pub found : AreClean g closed.log closed.db → FindsIn image (file_state opened)
    pub serves : AreClean g closed.log closed.db → IsOpened opened
    pub free : has_one (file_state opened).now.schema ≡ false
    pub makes : AreClean g closed.log closed.db → (file_state opened).now.schema ≡ no_schema
        → LeavesState closed empty_state
