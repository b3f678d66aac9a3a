-- Mirrors code: what is left of a database file that serves no word.
use Rattle.std.specs.Prelude.{◌≡◌, ◌⊎◌, Bool, false, IsTrue}
use Rattle.sqlite_disk.specs.declared.Disk as disk
use Rattle.sqlite_disk.specs.declared.Files.{Files}
use Rattle.sqlite_wal.specs.Recovery.{Image}
use Rattle.sqlite_trees.specs.View.{IsQuiet}
use Rattle.sqlite_store.specs.declared.store.FileStore.{FileStore}
use Rattle.sqlite_store.specs.FileStore.{view, faults, recovers, is_shielded}
use Rattle.sqlite.specs.Held.{Held}
use Rattle.sqlite.specs.State.{HasCleanDisk}
use Rattle.sqlite.specs.Files.{file_state, image_of}
use Rattle.money_core.specs.declared.cause.Cause.{Cause}
use Rattle.money_core.specs.declared.cause.Cause.TheVariants.{Damaged}
use Rattle.treasury_files.specs.declared.left.Left.{Left}
use Rattle.treasury_files.specs.declared.left.Left.TheVariants.{Closed, Open, Shut}
use Rattle.treasury_files.specs.Started.{IsLeftBy, IsClosedAs}

-- what is left of a connection that was neither closed nor copied, and of one that was closed, where it could be
abbrev pub IsLeftOpen : {D : Type 0} {g : disk.Ghosts D} → Held (FileStore D g) → Left D g → Type 0
IsLeftOpen {D} {g} c left = (it : FileStore D g) × (left ≡ Open it) × IsLeftBy c it

abbrev pub IsLeftShut : {D : Type 0} {g : disk.Ghosts D} → Held (FileStore D g) → Left D g → Type 0
IsLeftShut {D} {g} c left =
    (it : FileStore D g) × (left ≡ Shut it) × IsQuiet view faults recovers is_shielded c.store it

abbrev pub IsLeftClosed : {D : Type 0} {g : disk.Ghosts D} → Held (FileStore D g) → Left D g → Type 0
IsLeftClosed {D} {g} c left = ((closed : Files D) × (left ≡ Closed closed) × IsClosedAs g c closed) ⊎ IsLeftShut c left

-- and of one whose tables are not opened
abbrev pub IsLeftRefused : {D : Type 0} {g : disk.Ghosts D} → Held (FileStore D g) → Cause → Bool → Left D g → Type 0
IsLeftRefused c cause is_first left = (((is_first ≡ false) ⊎ (cause ≡ Damaged)) × IsLeftOpen c left) ⊎ IsLeftShut c left

-- the two files were opened, hold this, and no sync of either has failed
pub record AreOpened {D : Type 0} (g : disk.Ghosts D) (image : Image) (files : Files D) : Type 0 where
  pub log : IsTrue (g.is_usable files.log)
  pub db : IsTrue (g.is_usable files.db)
  pub same : image_of g files ≡ image

-- a connection was asked at most which version its tables name
pub record IsAsked {D : Type 0} (g : disk.Ghosts D) (old : Held (FileStore D g)) (cause : Cause)
    (new : Held (FileStore D g)) : Type 0 where
  pub same : (cause ≡ Damaged → ⊥) → new ≡ old
  pub clean : HasCleanDisk (file_state new) → HasCleanDisk (file_state old)
