-- Mirrors code: how a word over a database file is answered, part by part.
use Rattle.std.specs.Prelude.{◌≡◌, ◌≢◌, ◌⊎◌, ℕ, true, List, Option, None, Some, codes}
use Rattle.std.specs.Cow.{cow_slice_items}
use Rattle.clap.specs.declared.error.kind.ErrorKind.{ErrorKind}
use Rattle.clap.specs.declared.error.kind.ErrorKind.TheVariants.{OutOfMemory as NoMemory, DisplayHelp, DisplayVersion}
use Rattle.sqlite_disk.specs.declared.Disk as disk
use Rattle.sqlite_disk.specs.declared.Files.{Files}
use Rattle.sqlite_store.specs.declared.store.FileStore.{FileStore}
use Rattle.treasury.specs.declared.words.said.Said.{Said}
use Rattle.treasury_files.specs.declared.left.Left.{Left}
use Rattle.treasury_files.specs.declared.left.Left.TheVariants.{Closed, Open, Shut}
use Rattle.clap.specs.Walk.{Row, first_of}
use Rattle.sqlite_wal.specs.Recovery.{Image}
use Rattle.money_core.specs.declared.cause.Cause.TheVariants.{Request as NoRequest}
use Rattle.treasury_requests.specs.declared.request.Request.{Request}
use Rattle.treasury_spelling.specs.Spelling.{request_in, terms_in, says_no_count, given}
use Rattle.treasury.specs.OverFile.{Spoken, IsRefusedBefore, SaysOver, SaysToJournal}

-- what is said to a word, less the reason
abbrev pub spoken : Said → Spoken
spoken said = record { text = cow_slice_items said.answer; refused = said.is_refused }

-- words that are not taken are answered 1 for want of memory, 2 where they ask for nothing, and otherwise where they
-- ask for help or for the version
abbrev pub AnswersUntaken : {W : Type 0} → ErrorKind → W → W → ℕ → Type 0
AnswersUntaken kind w0 w1 status =
    ((kind ≡ NoMemory) × ((status ≡ 1) × (w1 ≡ w0)))
    ⊎ ((((kind ≡ DisplayHelp) ⊎ (kind ≡ DisplayVersion)) × (status ≢ 2))
    ⊎ ((kind ≢ NoMemory) × ((status ≡ 2) × (w1 ≡ w0))))

-- what is said to `import`, by its values: its journal is read first
abbrev pub SaysToImport : {D : Type 0} → (g : disk.Ghosts D) → Image → List Row → Spoken → Left D g → Type 0
SaysToImport g image values said left =
    (((first_of (codes "branch") values ≡ None) ⊎ ((first_of (codes "journal") values ≡ None)
    ⊎ (says_no_count values ≡ true)))
    × IsRefusedBefore g NoRequest said left)
    ⊎ ((branch : List ℕ) × (has : Option (List ℕ)) × (first_of (codes "branch") values ≡ Some branch)
    × SaysToJournal g image branch (terms_in values) has said left)

-- and to a word whose values spell its request
abbrev pub SaysToForm : {D : Type 0} → (g : disk.Ghosts D) → Image → List ℕ → List Row → Spoken → Left D g → Type 0
SaysToForm g image word values said left =
    ((request_in word values ≡ None) × IsRefusedBefore g NoRequest said left)
    ⊎ ((request : Request) × (request_in word values ≡ Some request)
    × SaysOver g image (given (terms_in values) request) said left)

-- what is left of a file that could be closed, or not
abbrev pub IsClosedOrShut : {D : Type 0} {g : disk.Ghosts D} → Left D g → Type 0
IsClosedOrShut {D} {g} left = ((closed : Files D) × (left ≡ Closed closed)) ⊎ ((it : FileStore D g) × (left ≡ Shut it))

-- or was not closed, and is left open
abbrev pub IsClosedOrLeft : {D : Type 0} {g : disk.Ghosts D} → Left D g → Type 0
IsClosedOrLeft {D} {g} left = IsClosedOrShut left ⊎ ((it : FileStore D g) × (left ≡ Open it))
