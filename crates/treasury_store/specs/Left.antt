-- What a connection may leave of the tables: at a crash, at a stop, or where a failure shuts it. The next opening finds
-- one of these (own rules; docs/RULES.md, "Runs").
use Rattle.std.specs.Prelude.{◌≡◌, ◌⊎◌, List, IsTrue}
use Rattle.sqlite.specs.Store.{Ghosts}
use Rattle.sqlite.specs.Tree.{Trees}
use Rattle.sqlite.specs.Held.{Held, state}
use Rattle.treasury_state.specs.declared.delta.Addition.{Addition}
use Rattle.treasury_state.specs.Federation.{Federation}
use Rattle.treasury_state.specs.Joined.{joined}
use Rattle.treasury_state.specs.Rows.{rows}
use Rattle.treasury_core.specs.declared.command.Command.{Command}
use Rattle.treasury_core.specs.Fits.{Fits}
use Rattle.treasury_core.specs.Step.{step}
use Rattle.treasury_tables.specs.Kept.{IsFaithful}
use Rattle.treasury_tables.specs.Rows.{Tables, HoldsTables, HoldsFirst, AreTreesOf, AreFirstTreesOf}
use Rattle.treasury_store.specs.declared.store.Store.{Store}
use Rattle.treasury_store.specs.Store.{TablesAreWhileOpen, IsOf, Joins}
use Rattle.treasury_store.specs.Treasury.{Treasury, IsTreasuryOf, SurvivesCommand}

-- whatever is left are these rows
abbrev pub LeavesRows : {S : Type 0} → Ghosts S → Held S → Tables → Type 0
LeavesRows g h t = IsFaithful g h → (trees : Trees) → (state g h).may_leave trees → AreTreesOf trees t

-- whatever is left are the ones or the others
abbrev pub LeavesEither : {S : Type 0} → Ghosts S → Held S → Tables → Tables → Type 0
LeavesEither g h t u =
    IsFaithful g h → (trees : Trees) → (state g h).may_leave trees → AreTreesOf trees t ⊎ AreTreesOf trees u

-- a call on a connection that was open, and whose tables held rows: whatever is left after it are these
abbrev pub LeavesSame : {S : Type 0} → Ghosts S → Held S → Held S → Type 0
LeavesSame g old new = IsTrue (state g old).is_open → (t : Tables) → TablesAreWhileOpen g old t → LeavesRows g new t

-- a call on a connection whose tables held rows, whichever these are: what may be left after it could be left before
abbrev pub LeavesNoMore : {S : Type 0} → Ghosts S → Held S → Held S → Type 0
LeavesNoMore g old new = (t : Tables) → HoldsTables (state g old).now t → IsFaithful g new → (trees : Trees)
    → (state g new).may_leave trees → (state g old).may_leave trees

-- while the disk returned what was written and the connection is open, the tables hold these rows as version 1, and so
-- does what is committed
abbrev pub FirstTablesAreWhileOpen : {S : Type 0} → Ghosts S → Held S → Tables → Type 0
FirstTablesAreWhileOpen g h t = IsFaithful g h → IsTrue (state g h).is_open
    → HoldsFirst (state g h).now t × ((state g h).committed ≡ (state g h).now)

-- the opening of version 1 on a connection that was open: whatever is left after it are the same rows, as version 1 or
-- as version 2
abbrev pub LeavesEitherVersion : {S : Type 0} → Ghosts S → Held S → Held S → Type 0
LeavesEitherVersion g old new =
    IsTrue (state g old).is_open → (t : Tables) → FirstTablesAreWhileOpen g old t → IsFaithful g new → (trees : Trees)
    → (state g new).may_leave trees
    → AreFirstTreesOf trees t ⊎ AreTreesOf trees t

-- what a command adds is written to an open store of a state: whatever is left are the rows of that state, or of the
-- one with it
abbrev pub LeavesJoined : {S : Type 0} → Ghosts S → Store S → Store S → List Addition → Type 0
LeavesJoined g old new xs =
    IsTrue (state g old.conn).is_open → (f : Federation) → IsOf g old f → Joins f xs
    → LeavesEither g new.conn (rows f) (rows (joined f xs))

-- a command on an open treasury of a state which it fits: whatever is left are the rows of the state before it, or of
-- the one after it
abbrev pub LeavesStep : {S : Type 0} → Ghosts S → Treasury S → Treasury S → Command → Type 0
LeavesStep g old new c =
    IsTrue (state g old.store.conn).is_open → (f : Federation) → IsTreasuryOf g old f → Fits f.styles c
    → LeavesEither g new.store.conn (rows f) (rows (step f c).next)

-- What a command leaves: at a crash, what could be left before, or the rows of the state after the command; and after
-- it, also where 41 shuts the connection, the rows of the state before it or after it.
pub record LeavesCommand {S : Type 0} (g : Ghosts S) (old new : Treasury S) (c : Command) : Type 0 where
  pub crash : SurvivesCommand g old new c
  pub left : LeavesStep g old new c
