-- What `serve` says and does over a database file (own rules; docs/RULES.md, "The program"), while the disk returns
-- what was written. Of what a socket gives or takes nothing is said: whichever calls come, they are answered one after
-- another.
use Rattle.std.specs.Prelude.{◌≡◌, ◌<◌, ◌⊎◌, ◌^◌, ℕ, false, List, [], ◌++◌, Option, None, Some, Result, codes}
use Rattle.std.specs.Prelude.{IsTrue}
use Rattle.std.specs.Io.KnownBytes.{Appends}
use Rattle.std.specs.Str.Parse.{IsNumeral, without_leading_plus, digits_value}
use Rattle.clap.specs.Walk.{Row, first_of, one_of}
use Rattle.sqlite_disk.specs.declared.Disk as disk
use Rattle.sqlite_disk.specs.declared.Files.{Files}
use Rattle.sqlite_wal.specs.Recovery.{Image}
use Rattle.sqlite_wal.specs.Reads.{AreClean}
use Rattle.sqlite_store.specs.declared.store.FileStore.{FileStore}
use Rattle.sqlite_store.specs.FileStore.{view, recovers, files}
use Rattle.sqlite.specs.Held.{Held}
use Rattle.sqlite.specs.Start.{FindsIn}
use Rattle.sqlite.specs.Tree.{Trees}
use Rattle.sqlite.specs.Files.{file_state, IsOpened, HoldsDatabase}
use Rattle.money_core.specs.declared.cause.Cause.TheVariants.{OutOfMemory, Store, Damaged, Request as NoRequest}
use Rattle.money_core.specs.declared.cause.Cause.TheVariants.{ReadFault}
use Rattle.book_core.specs.declared.refusal.Refusal.{Refusal}
use Rattle.treasury_state.specs.Federation.{Federation}
use Rattle.treasury_state.specs.Rows.{rows}
use Rattle.treasury_tables.specs.Rows.{AreTreesOf}
use Rattle.treasury_api.specs.declared.asking.Asked.{Asked}
use Rattle.treasury_api.specs.Step.{Standing}
use Rattle.treasury_api.specs.Left.{end_state}
use Rattle.treasury_api.specs.Web.{AnsweredCall, AreServed, OneFails}
use Rattle.treasury_files.specs.declared.left.Left.{Left}
use Rattle.treasury_files.specs.declared.left.Left.TheVariants.{Closed, Open, Shut}
use Rattle.treasury_files.specs.Left.{HoldsOf, IsImageOf, IsCleanStore, KeepsFile, HasNoTreasury}
use Rattle.treasury.specs.OverFile.{Spoken, IsRefusedBy, IsRefusedBefore}
use Rattle.treasury_files.specs.InFile.{LeavesState, ShowsState, HasTreasury}
use Rattle.treasury.specs.OverFile.{Tells}

-- ---- its values

-- a whole number of that many bits, in decimal digits
abbrev pub IsNumber : ℕ → List ℕ → Type 0
IsNumber bits text = IsNumeral 10 (without_leading_plus text) × (digits_value 10 (without_leading_plus text) < 2 ^ bits)

-- the number of that name is not given
abbrev pub LacksNumber : ℕ → List ℕ → List Row → Type 0
LacksNumber bits name values =
    (one_of name values ≡ None) ⊎ ((text : List ℕ) × (one_of name values ≡ Some text) × (IsNumber bits text → ⊥))

-- the file or the port is not given
abbrev pub LacksValue : List Row → Type 0
LacksValue values = (first_of (codes "db") values ≡ None) ⊎ LacksNumber 16 (codes "port") values

-- ---- what is said

-- connections can be made
abbrev pub listening : List ℕ
listening = codes "listening\n"

-- nothing
abbrev pub silent : Spoken
silent = record { text = []; refused = false }

-- `listening`, and then something, or nothing
abbrev pub after_listening : Spoken → Spoken
after_listening said = record said { text = listening ++ said.text }

-- ---- what calls leave

-- trees with the rows of the state where calls lead that are answered so; or, where one of them failed, which leaves
-- the state as do those after it, with the rows of the state where what it asks leads
abbrev pub HaveRowsAfter : Trees → (s : Standing) (calls : List AnsweredCall) (end : Standing) → AreServed s calls end
    → Type 0
HaveRowsAfter trees s calls end answered =
    AreTreesOf trees (rows end.now)
    ⊎ OneFails (λ (f : Federation) (asked : Result Asked Refusal). AreTreesOf trees (rows (end_state f asked))) s calls
    end answered

module _ {D : Type 0} (g : disk.Ghosts D) where
  -- A file was opened and closed, and that is what is left; these calls were answered in between. What its connection
  -- showed first is what the image holds, and that has a treasury. Of whichever state these are the rows: each call is
  -- answered by the state that the one before it left, and the file that is closed holds the rows of the state where
  -- the last one leads.
  pub record ServesOver (image : Image) (left : Left D g) : Type 0 where
    pub opened : Held (FileStore D g)
    pub closed : Files D
    pub calls : List AnsweredCall
    pub is_left : left ≡ Closed closed
    pub found : AreClean g closed.log closed.db → FindsIn image (file_state opened)
    pub serves : AreClean g closed.log closed.db → IsOpened opened
    pub has : AreClean g closed.log closed.db → HasTreasury (file_state opened).now
    pub answers : AreClean g closed.log closed.db → (f : Federation) → ShowsState g opened f
        → (end : Standing) × AreServed (record { now = f; failed = false }) calls end × LeavesState g closed end.now

  -- What the next word may find of files that were left open, with their log, holds the rows of a state.
  abbrev pub LeavesOpen : FileStore D g → Federation → Type 0
  LeavesOpen it f = (next : Image) → IsImageOf g (files it).0 (files it).1 next → ∥ HoldsOf next f ∥₁

  -- whatever may come back of a database has such rows: of the state where calls lead, or where the one leads that
  -- failed
  abbrev pub ComesBack : FileStore D g → (s : Standing) (calls : List AnsweredCall) (end : Standing)
      → AreServed s calls end → Type 0
  ComesBack it s calls end answered = (trees : Trees) → recovers it trees → HaveRowsAfter trees s calls end answered

  -- The same of a file that was opened and is left open, with its log beside it. The next word finds a database that
  -- may come back; unless a failure has shut it, the files hold the rows of the state where the last call leads.
  pub record ServesOpen (image : Image) (left : Left D g) : Type 0 where
    pub opened : Held (FileStore D g)
    pub it : FileStore D g
    pub calls : List AnsweredCall
    pub is_left : left ≡ Open it
    pub found : IsCleanStore g it → FindsIn image (file_state opened)
    pub serves : IsCleanStore g it → IsOpened opened
    pub has : IsCleanStore g it → HasTreasury (file_state opened).now
    pub answers : IsCleanStore g it → (f : Federation) → ShowsState g opened f
        → (end : Standing) × (answered : AreServed (record { now = f; failed = false }) calls end)
        × (IsTrue (view it).is_open → LeavesOpen it end.now)
        × ComesBack it (record { now = f; failed = false }) calls end answered
    pub finds : IsCleanStore g it → (next : Image) → IsImageOf g (files it).0 (files it).1 next
        → ∥ ((trees : Trees) × recovers it trees × HoldsDatabase next trees) ∥₁

  -- The same of a file that was opened and could not be closed: of what may come back, and not of what the next word
  -- finds.
  pub record ServesShut (image : Image) (left : Left D g) : Type 0 where
    pub opened : Held (FileStore D g)
    pub it : FileStore D g
    pub calls : List AnsweredCall
    pub is_left : left ≡ Shut it
    pub found : IsCleanStore g it → FindsIn image (file_state opened)
    pub serves : IsCleanStore g it → IsOpened opened
    pub has : IsCleanStore g it → HasTreasury (file_state opened).now
    pub answers : IsCleanStore g it → (f : Federation) → ShowsState g opened f
        → (end : Standing) × (answered : AreServed (record { now = f; failed = false }) calls end)
        × ComesBack it (record { now = f; failed = false }) calls end answered

  -- the file is refused, by 40, 41 or 43, and is left as it was; and 43 has its reason
  abbrev pub RefusesFile : Image → Spoken → Left D g → Type 0
  RefusesFile image said left =
      (IsRefusedBy OutOfMemory said
      ⊎ (IsRefusedBy Store said ⊎ (IsRefusedBy Damaged said × HasNoTreasury g image left)))
      × KeepsFile g image left

  -- 41: the file was changed by another program, and is left open; or it could not be closed
  abbrev pub IsNotClosed : Image → Spoken → Left D g → Type 0
  IsNotClosed image said left = IsRefusedBy Store said × (ServesOpen image left ⊎ ServesShut image left)

  -- how it ends once connections can be made: they are served, or one of them cannot be accepted, which is 45; or the
  -- file is not closed
  abbrev pub EndsServing : Image → Spoken → Left D g → Type 0
  EndsServing image said left =
      (ServesOver image left × ((said ≡ silent) ⊎ IsRefusedBy ReadFault said)) ⊎ IsNotClosed image said left

  -- what is said to `serve`: a value is lacking, which is 44; or the file is refused, also because it is not closed,
  -- or the port, which is 45, and the file is left as it was; or connections can be made
  abbrev pub SaysToServe : Image → List Row → Spoken → Left D g → Type 0
  SaysToServe image values said left =
      (LacksValue values × IsRefusedBefore g NoRequest said left)
      ⊎ (RefusesFile image said left
      ⊎ ((ServesOver image left × IsRefusedBy ReadFault said × KeepsFile g image left)
      ⊎ ((rest : Spoken) × (said ≡ after_listening rest) × EndsServing image rest left)))

  -- `listening` is written and not handed on: the status is 1, and the file that was opened holds what it held
  abbrev pub IsUnheard : {W : Type 0} → Image → (W → Option (List ℕ)) → W → W → ℕ → Left D g → Type 0
  IsUnheard image contents w0 w1 status left =
      Appends (contents w0) (contents w1) listening × (status ≡ 1) × ServesOver image left × KeepsFile g image left

  -- `serve` is told what is said to it; or 40, and no file was opened; or nobody hears that it listens
  abbrev pub IsServedOver : {W : Type 0} → Image → (W → Option (List ℕ)) → W → W → ℕ → List Row → Left D g → Type 0
  IsServedOver image contents w0 w1 status values left =
      ((said : Spoken) × Tells contents w0 w1 status said
      × (IsRefusedBefore g OutOfMemory said left ⊎ SaysToServe image values said left))
      ⊎ IsUnheard image contents w0 w1 status left
