-- What a word leaves of the files that it is over, the database and its log (own rules; docs/RULES.md, "The program"),
-- while the disk returns what was written. An image is what the two files hold; that of a word, when it begins.
use Rattle.std.specs.Prelude.{◌≡◌, ◌⊎◌, [], IsTrue, ⊤}
use Rattle.sqlite_disk.specs.declared.Disk as disk
use Rattle.sqlite_disk.specs.declared.Files.{Files}
use Rattle.sqlite_wal.specs.Recovery.{Image}
use Rattle.sqlite_wal.specs.Files.{seen_image, outcomes}
use Rattle.sqlite_wal.specs.Reads.{AreClean}
use Rattle.sqlite_trees.specs.View.{IsClean}
use Rattle.sqlite_store.specs.declared.store.FileStore.{FileStore}
use Rattle.sqlite_store.specs.FileStore.{view, recovers, files}
use Rattle.sqlite.specs.Tree.{Trees}
use Rattle.sqlite.specs.Effect.{Database, IsDatabase}
use Rattle.sqlite.specs.Files.{image_of, HoldsDatabase, IsCleanLeft, LeavesFiles}
use Rattle.sqlite.specs.declared.file.Leftover.{Leftover}
use Rattle.sqlite.specs.declared.file.Leftover.TheVariants as rest
use Rattle.treasury_state.specs.Federation.{Federation}
use Rattle.treasury_state.specs.Good.{IsGoodState}
use Rattle.treasury_state.specs.Rows.{rows}
use Rattle.treasury_tables.specs.Rows.{Tables, HoldsEither, AreTreesOf, AreFirstTreesOf}
use Rattle.treasury_files.specs.declared.left.Left.{Left}
use Rattle.treasury_files.specs.declared.left.Left.TheVariants.{Untouched, Closed, Open, Shut, Unopened}

-- ---- what files hold

-- the files hold a database whose tables are these rows, in version 2 or in version 1
pub record HoldsRows (image : Image) (t : Tables) : Type 0 where
  pub db : Database
  pub listed : IsDatabase db
  pub tables : HoldsEither db t
  pub both : ∥ HoldsDatabase image db.trees ∥₁

-- they hold the rows of a good state
pub record HoldsOf (image : Image) (f : Federation) : Type 0 where
  pub good : IsGoodState f
  pub held : HoldsRows image (rows f)

-- these are trees of a database with these rows, in version 2 or in version 1
abbrev pub HaveRows : Trees → Tables → Type 0
HaveRows trees t = AreTreesOf trees t ⊎ AreFirstTreesOf trees t

-- the files as they were left, or the database file alone
abbrev pub IsLeft : Image → Image → Type 0
IsLeft left next = (next ≡ left) ⊎ (next ≡ record left { log = [] })

-- ---- what is left of them

module _ {D : Type 0} (g : disk.Ghosts D) where
  -- as the two files read, or as a crash may leave them
  abbrev pub IsImageOf : D → D → Image → Type 0
  IsImageOf log db image = (image ≡ seen_image g log db) ⊎ outcomes g log db image

  -- so far the disk has returned what was written
  abbrev pub IsCleanStore : FileStore D g → Type 0
  IsCleanStore it = IsClean (view it) × AreClean g (files it).0 (files it).1

  abbrev pub IsCleanIn : Left D g → Type 0
  IsCleanIn Untouched = ⊤
  IsCleanIn (Closed closed) = AreClean g closed.log closed.db
  IsCleanIn (Open it) = IsCleanStore it
  IsCleanIn (Shut it) = IsCleanStore it
  IsCleanIn (Unopened unopened) = IsCleanLeft unopened

  -- What the next word may find: what was there, where no file was opened; closed files, with the log beside the
  -- database file or without; and files that were left with their log. Of files that a failure shut, or that were not
  -- opened, it is not said here.
  abbrev pub MayBe : Image → Left D g → Image → Type 0
  MayBe image Untouched next = next ≡ image
  MayBe image (Closed closed) next = (left : Image) × IsImageOf closed.log closed.db left × IsLeft left next
  MayBe image (Open it) next = IsImageOf (files it).0 (files it).1 next
  MayBe image (Shut it) next = ⊥
  MayBe image (Unopened unopened) next = ⊥

  -- what a database that was left open, or that a failure shut, may come back as, by the kit's word for it
  abbrev pub MayComeBack : Left D g → Trees → Type 0
  MayComeBack (Open it) trees = recovers it trees
  MayComeBack (Shut it) trees = recovers it trees
  MayComeBack (Unopened (rest.Store it)) trees = recovers it trees
  MayComeBack _ trees = ⊥

  -- files that were not opened are spared as the kit has it: at most a log is copied, and what is no database may be
  -- written over
  abbrev pub AreSpared : Image → Left D g → Type 0
  AreSpared image (Unopened unopened) = (found : Files D) × (image_of g found ≡ image) × LeavesFiles found unopened
  AreSpared image _ = ⊤

  -- Whichever rows the files held, what is left holds these: what the next word may find, and what may come back.
  pub record KeepsFile (image : Image) (left : Left D g) : Type 0 where
    pub finds : IsCleanIn left → (next : Image) → MayBe image left next → (t : Tables) → HoldsRows image t
        → ∥ HoldsRows next t ∥₁
    pub comes_back : IsCleanIn left → (trees : Trees) → MayComeBack left trees → (t : Tables) → HoldsRows image t
        → HaveRows trees t
    pub spared : IsCleanIn left → AreSpared image left

  -- 43: no file was opened; or it held the rows of no good state, in neither version
  abbrev pub HasNoTreasury : Image → Left D g → Type 0
  HasNoTreasury image left = (left ≡ Untouched) ⊎ (IsCleanIn left → (f : Federation) → HoldsOf image f → ⊥)
