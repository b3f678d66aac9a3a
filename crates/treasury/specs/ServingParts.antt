-- Mirrors code: how `serve` is done, part by part.
use Rattle.std.specs.Prelude.{◌≡◌, ◌<◌, ◌⊎◌, ℕ, Bool, true, false, List, take, length, Option, None, Some, ⊤}
use Rattle.std.specs.Io.KnownBytes.{Appends}
use Rattle.clap.specs.Walk.{Row}
use Rattle.sqlite_disk.specs.declared.Disk as disk
use Rattle.sqlite_wal.specs.Recovery.{Image}
use Rattle.money_core.specs.declared.cause.Cause.TheVariants.{Store, Request as NoRequest, ReadFault}
use Rattle.treasury_store.specs.Treasury.{Treasury}
use Rattle.treasury.specs.declared.words.serving.Ending.{Ending}
use Rattle.treasury.specs.declared.words.serving.Ending.TheVariants.{Unbound, Unwritten, Unaccepted, Changed, Finished}
use Rattle.treasury_files.specs.declared.left.Left.{Left}
use Rattle.treasury_files.specs.Left.{KeepsFile}
use Rattle.treasury.specs.OverFile.{Spoken, IsRefusedBy, IsRefusedBefore}
use Rattle.treasury.specs.Serving.{ServesOver, ServesOpen, RefusesFile, IsNotClosed, LacksValue, listening, silent}

-- the output takes no more after a first part of `listening`, or does not hand on what it took
abbrev pub IsUnannounced : {W : Type 0} → (W → Option (List ℕ)) → W → W → Type 0
IsUnannounced contents w0 w1 =
    ((taken : ℕ) × (taken < length listening) × Appends (contents w0) (contents w1) (take taken listening))
    ⊎ Appends (contents w0) (contents w1) listening

-- `listening` is written once connections can be made, where it can be
abbrev pub IsAnnouncedBy : {W : Type 0} → (W → Option (List ℕ)) → W → W → Ending → Type 0
IsAnnouncedBy contents w0 w1 (Unbound reason) = w1 ≡ w0
IsAnnouncedBy contents w0 w1 Unwritten = IsUnannounced contents w0 w1
IsAnnouncedBy contents w0 w1 (Unaccepted port) = Appends (contents w0) (contents w1) listening
IsAnnouncedBy contents w0 w1 Changed = Appends (contents w0) (contents w1) listening
IsAnnouncedBy contents w0 w1 Finished = Appends (contents w0) (contents w1) listening

-- serving ended because `listening` could not be written
abbrev pub ends_unwritten : Option Ending → Bool
ends_unwritten (Some Unwritten) = true
ends_unwritten _ = false

-- where the port cannot be listened on, or `listening` cannot be written, or is not handed on, nothing is served
abbrev pub ServesIfHeard : {S : Type 0} → Ending → Treasury S → Treasury S → Type 0
ServesIfHeard (Unbound reason) old new = new ≡ old
ServesIfHeard Unwritten old new = new ≡ old
ServesIfHeard _ old new = ⊤

-- what is said then, where the file is closed
abbrev pub SaysAtEnd : Ending → Spoken → Type 0
SaysAtEnd (Unbound reason) said = IsRefusedBy ReadFault said
SaysAtEnd Unwritten said = said ≡ silent
SaysAtEnd (Unaccepted port) said = IsRefusedBy ReadFault said
SaysAtEnd Changed said = ⊥
SaysAtEnd Finished said = said ≡ silent

-- nothing is written where it does not begin
abbrev pub IsAnnounced : {W : Type 0} → (W → Option (List ℕ)) → W → W → Option Ending → Type 0
IsAnnounced contents w0 w1 None = w1 ≡ w0
IsAnnounced contents w0 w1 (Some ending) = IsAnnouncedBy contents w0 w1 ending

module _ {D : Type 0} (g : disk.Ghosts D) where
  -- the file holds what it held where nothing is served
  abbrev pub KeepsUnheard : Image → Ending → Left D g → Type 0
  KeepsUnheard image (Unbound reason) left = KeepsFile g image left
  KeepsUnheard image Unwritten left = KeepsFile g image left
  KeepsUnheard image _ left = ⊤

  -- and where it may not be closed, or is not closed because another program changed it
  abbrev pub EndsServeBy : Image → Ending → Spoken → Left D g → Type 0
  EndsServeBy image Changed said left = IsRefusedBy Store said × ServesOpen g image left
  EndsServeBy image ending said left =
      (IsNotClosed g image said left ⊎ (ServesOver g image left × SaysAtEnd ending said))
      × KeepsUnheard image ending left

  -- and where it did not begin
  abbrev pub SaysServing : Image → List Row → Option Ending → Spoken → Left D g → Type 0
  SaysServing image values None said left =
      (LacksValue values × IsRefusedBefore g NoRequest said left) ⊎ RefusesFile g image said left
  SaysServing image values (Some ending) said left = EndsServeBy image ending said left
