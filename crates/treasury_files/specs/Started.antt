-- When a treasury is started on a database file, and when it is closed or left (own rules; docs/RULES.md, "The
-- program"), while the disk returns what was written.
use Rattle.std.specs.Prelude.{◌≡◌, false, IsTrue}
use Rattle.sqlite_disk.specs.declared.Disk as disk
use Rattle.sqlite_disk.specs.declared.Files.{Files}
use Rattle.sqlite_wal.specs.Recovery.{Image}
use Rattle.sqlite_wal.specs.Reads.{AreClean}
use Rattle.sqlite_trees.specs.View.{IsClean, IsQuiet}
use Rattle.sqlite_store.specs.declared.store.FileStore.{FileStore}
use Rattle.sqlite_store.specs.FileStore.{view, faults, recovers, is_shielded}
use Rattle.sqlite.specs.Held.{Held, AreDatabases}
use Rattle.sqlite.specs.State.{HasCleanDisk, IsLive}
use Rattle.sqlite.specs.Start.{FindsIn}
use Rattle.sqlite.specs.Files.{file_state, over_files, IsOpened}
use Rattle.sqlite.specs.Closing.{IsCopied}
use Rattle.money_core.specs.declared.cause.Cause.{Cause}
use Rattle.money_core.specs.declared.cause.Cause.TheVariants.{OutOfMemory, Store as Failed, Damaged}
use Rattle.treasury_state.specs.Federation.{Federation}
use Rattle.treasury_tables.specs.Rows.{Tables, HoldsEither}
use Rattle.treasury_store.specs.Store.{TablesAreWhileOpen}
use Rattle.treasury_store.specs.Treasury.{Treasury, IsTreasuryOf}
use Rattle.treasury_files.specs.declared.file.Unopened.{Unopened as Why}
use Rattle.treasury_files.specs.declared.file.Unopened.TheVariants as why
use Rattle.treasury_files.specs.declared.left.Left.{Left}
use Rattle.treasury_files.specs.Left.{KeepsFile, HasNoTreasury}
use Rattle.treasury_files.specs.InFile.{ShowsState, HasTreasury}

-- a store is what is left of a connection that was neither closed nor copied
pub record IsLeftBy {D : Type 0} {g : disk.Ghosts D} (c : Held (FileStore D g)) (it : FileStore D g) : Type 0 where
  pub numbered : IsClean (view it) → IsTrue (view it).is_numbered
  pub sound : IsClean (view it) → AreDatabases (recovers it)
  pub was_open : IsClean (view it) → IsTrue (view it).is_open → IsTrue (view c.store).is_open
  pub quiet : IsQuiet view faults recovers is_shielded c.store it

-- the same of one that showed a database, where it was open
pub record IsLeftAs {D : Type 0} {g : disk.Ghosts D} (c : Held (FileStore D g)) (it : FileStore D g) : Type 0 where
  pub live : IsLive (file_state c)
  pub by : IsLeftBy c it

-- by which cause a file serves no word
abbrev pub cause_of_why : Why → Cause
cause_of_why why.NoMemory = OutOfMemory
cause_of_why (why.Unusable reason) = Failed
cause_of_why (why.NoTreasury reason) = Damaged
cause_of_why (why.OtherVersion version) = Damaged
cause_of_why (why.Strange told) = Damaged

module _ {D : Type 0} (g : disk.Ghosts D) where
  -- A file that serves no word holds what it held; where that is 43, it has no treasury, if it was opened.
  pub record IsUnserved (image : Image) (why : Why) (left : Left D g) : Type 0 where
    pub keeps : KeepsFile g image left
    pub reason : cause_of_why why ≡ Damaged → HasNoTreasury g image left

  -- a connection was opened on files that held this
  pub record IsOpenedOn (image : Image) (opened : Held (FileStore D g)) : Type 0 where
    pub found : HasCleanDisk (file_state opened) → FindsIn image (file_state opened)
    pub serves : HasCleanDisk (file_state opened) → IsOpened opened

  -- a treasury was started on a connection that was opened
  pub record StartsOn (opened : Held (FileStore D g)) (t : Treasury (FileStore D g)) : Type 0 where
    pub clean : HasCleanDisk (file_state t.store.conn) → HasCleanDisk (file_state opened)
    pub is_open : HasCleanDisk (file_state t.store.conn) → IsTrue (file_state t.store.conn).is_open
    pub tables : HasCleanDisk (file_state t.store.conn) → (file_state opened).committed ≡ (file_state opened).now
        → (rows : Tables) → HoldsEither (file_state opened).now rows → TablesAreWhileOpen over_files t.store.conn rows
    pub of : HasCleanDisk (file_state t.store.conn) → (file_state opened).committed ≡ (file_state opened).now
        → (f : Federation) → ShowsState g opened f → IsTreasuryOf over_files t f
    pub has : HasCleanDisk (file_state t.store.conn) → HasTreasury (file_state opened).now
    pub unfailed : t.store.failed ≡ false

  -- a treasury was started on a file that was opened
  pub record IsStarted (image : Image) (t : Treasury (FileStore D g)) : Type 0 where
    pub opened : Held (FileStore D g)
    pub on : IsOpenedOn image opened
    pub starts : StartsOn opened t

  -- a connection, which showed a database, was closed, and the last commit is in the file alone
  pub record IsClosedAs (c : Held (FileStore D g)) (closed : Files D) : Type 0 where
    pub live : IsLive (file_state c)
    pub copied : AreClean g closed.log closed.db → IsCopied c closed

  -- It could not be closed.
  abbrev pub IsStillOpen : Held (FileStore D g) → FileStore D g → Type 0
  IsStillOpen c it = IsQuiet view faults recovers is_shielded c.store it
