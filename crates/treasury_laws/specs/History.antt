-- Runs of commands, and what the accepted ones added (own rules; docs/RULES.md, "Books", "Orders").
use Rattle.std.specs.Prelude.{◌≡◌, ◌⊎◌, ℕ, if◌then◌else◌, List, [], ◌∷◌, ◌++◌, ⊤, Result, Ok, Err}
use Rattle.std.specs.List.{AllByRecursion}
use Rattle.std.specs.Str.{bytes_eq}
use Rattle.book_core.specs.declared.refusal.Refusal.{Refusal}
use Rattle.journal_format.specs.declared.txn.Located.{Located}
use Rattle.treasury_state.specs.declared.record.Record.{Record}
use Rattle.treasury_state.specs.declared.delta.Addition.{Addition}
use Rattle.treasury_state.specs.declared.delta.Addition.TheVariants as add
use Rattle.treasury_state.specs.Federation.{Federation, records_of, names_of}
use Rattle.treasury_core.specs.declared.command.Answer.{Answer}
use Rattle.treasury_core.specs.declared.command.Answer.TheVariants.{Done, Entered, Repeated}
use Rattle.treasury_core.specs.Step.{delta}
use Rattle.treasury_core.specs.Run.{Turn, after_turn}

-- what the accepted commands added, in order
abbrev pub history : Federation → List Turn → List Addition
history f [] = []
history f (t ∷ ts) = delta f t.command t.reply ++ history (after_turn f t) ts

-- the record of an addition, where it is one of the branch of that name
abbrev pub record_if : List ℕ → Addition → List Record
record_if name (add.Commodity style) = []
record_if name (add.Branch other) = []
record_if name (add.Record other r) = if bytes_eq other name then r ∷ [] else []
record_if name (add.Dispatched t) = []
record_if name (add.Received id p) = []
record_if name (add.Locked other day) = []

-- the records of the branch of that name among additions, in order
abbrev pub records_among : List ℕ → List Addition → List Record
records_among name [] = []
records_among name (x ∷ xs) = record_if name x ++ records_among name xs

-- a refusal, or `repeated`
abbrev pub IsRefusedOrRepeated : Result Answer Refusal → Type 0
IsRefusedOrRepeated (Ok Done) = ⊥
IsRefusedOrRepeated (Ok (Entered new repeated)) = ⊥
IsRefusedOrRepeated (Ok Repeated) = ⊤
IsRefusedOrRepeated (Err refusal) = ⊤

-- one of the records
abbrev pub IsAmong : Record → List Record → Type 0
IsAmong r [] = ⊥
IsAmong r (x ∷ xs) = (x ≡ r) ⊎ IsAmong r xs

-- the transaction is that of one of the records, with its mark
pub record IsOwn (rs : List Record) (x : Located) : Type 0 where
  pub holder : Record
  pub among : IsAmong holder rs
  pub same : x.txn ≡ holder.txn

-- a file of a branch's own transactions, in any order, each as often as one likes
abbrev pub IsOwnJournal : List Record → List Located → Type 0
IsOwnJournal rs file = AllByRecursion (IsOwn rs) file

-- each of the later records is one of the first ones
abbrev pub AreAmong : List Record → List Record → Type 0
AreAmong all rs = AllByRecursion (λ (r : Record). IsAmong r all) rs

-- the later list has the earlier one at its front
abbrev pub Grows : {X : Type 0} → List X → List X → Type 0
Grows {X} earlier later = (more : List X) × (later ≡ earlier ++ more)

-- the later state has all commodities, branches and records of the earlier one, in order, and more after them
pub record HasGrown (earlier later : Federation) : Type 0 where
  pub styles : Grows earlier.styles later.styles
  pub branches : Grows (names_of earlier.branches) (names_of later.branches)
  pub records : (name : List ℕ) → Grows (records_of earlier name) (records_of later name)
