-- What a treasury is of, and what a command makes of it.
use Rattle.std.specs.Prelude.{◌≡◌, ◌⊎◌, ◌↔◌, Bool, true, false, if◌then◌else◌, List, [], ◌∷◌, Option, Result, Err}
use Rattle.std.specs.Prelude.{IfSome, IfErr, OnOk, IsTrue}
use Rattle.money_core.specs.declared.cause.Cause.TheVariants.{Damaged, OutOfMemory, Store as Failed, Closed, Request}
use Rattle.money_core.specs.declared.cause.Cause.TheVariants.{ReadFault, WriteFault}
use Rattle.book_core.specs.declared.refusal.Refusal.{Refusal}
use Rattle.book_core.specs.declared.refusal.Refusal.TheVariants.{Plain}
use Rattle.sqlite.specs.Store.{Ghosts}
use Rattle.sqlite.specs.State.{Survives}
use Rattle.sqlite.specs.Held.{Held, state}
use Rattle.treasury_state.specs.Federation.{Federation}
use Rattle.treasury_state.specs.Rows.{rows}
use Rattle.treasury_core.specs.declared.command.Answer.{Answer}
use Rattle.treasury_core.specs.declared.command.Command.{Command}
use Rattle.treasury_core.specs.Step.{reply, after, delta, step}
use Rattle.treasury_core.specs.Fits.{Fits}
use Rattle.treasury_core.specs.Run.{Turn, Replies}
use Rattle.treasury_tables.specs.Rows.{HoldsTables, AreTreesOf}
use Rattle.treasury_tables.specs.Kept.{ShutsByFault, IsFaithful}
use Rattle.treasury_store.specs.declared.store.Store.{Store}
use Rattle.treasury_store.specs.Store.{IsOf}

-- a treasury: its store, and the state in memory while it is held
pub record Treasury (S : Type 0) : Type 0 where
  pub store : Store S
  pub held : Option Federation

-- The treasury is of a good state: its store is, and the state in memory, while it is held, is that one.
pub record IsTreasuryOf {S : Type 0} (g : Ghosts S) (t : Treasury S) (f : Federation) : Type 0 where
  pub store : IsOf g t.store f
  pub held : IfSome t.held (λ s. s ≡ f)

-- said of whichever state the treasury was of before a call, as long as the disk returned what was written and no call
-- had failed before
abbrev pub WhileOf : {S : Type 0} → Ghosts S → Treasury S → Treasury S → (Federation → Type 0) → Type 0
WhileOf g old new Says =
    IsFaithful g new.store.conn → old.store.failed ≡ false → (f : Federation) → IsTreasuryOf g old f → Says f

-- the reply is the step's, or 40 or 41
abbrev pub RepliesOrFails : Federation → Command → Result Answer Refusal → Type 0
RepliesOrFails f c r = Replies f c r ⊎ (r ≡ Err (Plain Failed))

-- a command that does not fit the tables' state: the reply is 43, or 40 or 41, as that state could not be loaded
abbrev pub IsUnfit : Result Answer Refusal → Type 0
IsUnfit r = (r ≡ Err (Plain Damaged)) ⊎ (r ≡ Err (Plain OutOfMemory)) ⊎ (r ≡ Err (Plain Failed))

-- A turn of a run: the reply is the step's, or 40 or 41, and the treasury is of the state after it.
pub record Performs {S : Type 0} (g : Ghosts S) (new : Treasury S) (f : Federation) (c : Command)
    (r : Result Answer Refusal) : Type 0 where
  pub replies : RepliesOrFails f c r
  pub next : IsTreasuryOf g new (after f c r)

-- A command on a treasury of a state: if it fits that state, it is a turn of a run; if not, it is refused, and the
-- treasury is still of that state.
pub record PerformsIfFits {S : Type 0} (g : Ghosts S) (new : Treasury S) (f : Federation) (c : Command)
    (r : Result Answer Refusal) : Type 0 where
  pub performs : Fits f.styles c → Performs g new f c r
  pub unfit : (Fits f.styles c → ⊥) → IsUnfit r × IsTreasuryOf g new f

-- 41: a call of the database has failed, and the tables are as before
abbrev pub is_failure : Result Answer Refusal → Bool
is_failure (Err (Plain Failed)) = true
is_failure _ = false

-- a command with its reply; none where it is answered 41
abbrev pub turn_if : Command → Result Answer Refusal → List Turn
turn_if c r = if is_failure r then [] else record { command = c; reply = r } ∷ []

-- Whichever state the treasury was of, whose rows the tables were, and which the command fits: a crash leaves what it
-- could leave before, or the rows of the state after the command.
abbrev pub SurvivesCommand : {S : Type 0} → Ghosts S → Treasury S → Treasury S → Command → Type 0
SurvivesCommand g old new c =
    Survives (state g old.store.conn) (state g new.store.conn)
    (λ trees. (f : Federation) → IsTreasuryOf g old f → Fits f.styles c
    → HoldsTables (state g old.store.conn).now (rows f) → AreTreesOf trees (rows (step f c).next))

-- a command that adds nothing: it is refused, or everything that it asks for is there
abbrev pub AddsNothing : Federation → Command → Type 0
AddsNothing f c = delta f c (reply f c) ≡ []

-- a command on a treasury on which no call has failed: it fails just where it is answered 41
abbrev pub FailsBy : Result Answer Refusal → Bool → Type 0
FailsBy r failed = IsTrue failed ↔ (r ≡ Err (Plain Failed))

-- a refusal by the rules of commands, or for want of memory: not one of the database, of a request, or of an input or
-- output
abbrev pub is_by_rules : Refusal → Bool
is_by_rules (Plain Failed) = false
is_by_rules (Plain Closed) = false
is_by_rules (Plain Damaged) = false
is_by_rules (Plain Request) = false
is_by_rules (Plain ReadFault) = false
is_by_rules (Plain WriteFault) = false
is_by_rules _ = true

-- why a command is refused on a treasury on which no call has failed: by the rules or want of memory, by 41, or by 43
abbrev pub IsListedRefusal : Refusal → Type 0
IsListedRefusal e = IsTrue (is_by_rules e) ⊎ ((e ≡ Plain Failed) ⊎ (e ≡ Plain Damaged))

-- What is said of a reply whatever the disk returned, and whatever the tables are: a call has failed just where it is
-- 41; a refusal is one of those that are listed; and while memory holds a state, the reply is by that state.
pub record RepliesInAnyCase {S : Type 0} (old new : Treasury S) (c : Command) (r : Result Answer Refusal) : Type 0 where
  pub fails : FailsBy r new.store.failed
  pub listed : IfErr r IsListedRefusal
  pub held : IfSome old.held (λ s. RepliesOrFails s c r)

-- What a command does to a connection: one that was open is open after an answer, and after each refusal but 41; no
-- fault of the disk is forgotten, and only a fault shuts it.
pub record KeepsConnection {S : Type 0} (g : Ghosts S) (old new : Held S) (r : Result Answer Refusal) : Type 0 where
  pub still_open : IsFaithful g new → IsTrue (state g old).is_open → OnOk r (IsTrue (state g new).is_open)
  pub kept : IsFaithful g new → IsTrue (state g old).is_open
      → IsTrue (state g new).is_open ⊎ (r ≡ Err (Plain Failed))
  pub shuts : ShutsByFault g old new
