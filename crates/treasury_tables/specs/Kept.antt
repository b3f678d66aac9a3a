-- What a statement makes of the tables that a connection has.
use Rattle.std.specs.Prelude.{◌≡◌, ◌≤◌, ◌⊎◌, ℕ, Result, OnOk, OnErr, IsTrue}
use Rattle.sqlite_disk.specs.Disk.{MoreFaults}
use Rattle.sqlite.specs.Schema.{Schema}
use Rattle.sqlite.specs.Effect.{Database}
use Rattle.sqlite.specs.Store.{Ghosts}
use Rattle.sqlite.specs.declared.error.Error.{Error}
use Rattle.sqlite.specs.State.{State, HasCleanDisk, KeepsCommit, Survives}
use Rattle.sqlite.specs.Held.{Held, state}
use Rattle.treasury_tables.specs.Tables.{store_schema}
use Rattle.treasury_tables.specs.Rows.{Tables, HoldsTables}

-- the disk under a connection has returned what was written to it
abbrev pub IsFaithful : {S : Type 0} → Ghosts S → Held S → Type 0
IsFaithful g h = HasCleanDisk (state g h)

-- one statement inside a transaction: where it succeeds, the tables are the changed ones; it commits nothing
pub record Writes {S : Type 0} (g : Ghosts S) (old new : Held S) (r : Result ℕ Error)
    (change : Tables → Tables) : Type 0 where
  pub rows : IsFaithful g new
      → OnOk r ((t : Tables) → HoldsTables (state g old).now t → HoldsTables (state g new).now (change t))
  pub inside : IsFaithful g new → OnOk r (IsTrue (state g new).in_transaction)
  pub kept : IsFaithful g new → KeepsCommit (state g old) (state g new)
  pub survives : Survives (state g old) (state g new) (λ _. ⊥)

-- the database is not the tables of that schema
abbrev pub HasOtherTables : Schema → Database → Type 0
HasOtherTables schema db = db.schema ≡ schema → ⊥

-- a crash leaves what it could leave before, unless the database was not our tables, whatever was in them
abbrev pub KeepsTables : {S : Type 0} → Ghosts S → Held S → Held S → Type 0
KeepsTables g old new = Survives (state g old) (state g new) (λ _. HasOtherTables store_schema (state g old).now)

-- no fault of the disk is forgotten, and only a fault shuts the connection: one that was open is open, or its disk has
-- failed once more
pub record ShutsByFault {S : Type 0} (g : Ghosts S) (old new : Held S) : Type 0 where
  pub clean : IsFaithful g new → IsFaithful g old
  pub counts : (state g old).faults ≤ (state g new).faults
  pub closes : IsFaithful g new → IsTrue (state g old).is_open
      → IsTrue (state g new).is_open ⊎ MoreFaults (state g old).faults (state g new).faults

-- A call that changes nothing: a connection that is open after it was open before it, shows what it showed, and has
-- committed what it had; and a crash leaves what it could leave before.
pub record ChangesNothing {S : Type 0} (g : Ghosts S) (old new : Held S) : Type 0 where
  pub same : IsFaithful g new → IsTrue (state g new).is_open
      → IsTrue (state g old).is_open
      × ((state g new).now ≡ (state g old).now) × ((state g new).committed ≡ (state g old).committed)
  pub survives : Survives (state g old) (state g new) (λ _. ⊥)

-- where the database is our tables, and is committed, it shows what it showed, and that is what is committed
abbrev pub StaysAsIs : State → State → Type 0
StaysAsIs old new =
    old.now.schema ≡ store_schema → old.committed ≡ old.now → (new.now ≡ old.now) × (new.committed ≡ old.committed)

-- Queries of our tables: those that succeed are of a connection that is open, and one that is open was so; where the
-- tables are committed, they stay as they are also where a query fails; and a crash leaves what it could leave before.
pub record Queries {S X : Type 0} (g : Ghosts S) (old new : Held S) (r : Result X Error) : Type 0 where
  pub opened : IsFaithful g new → OnOk r (IsTrue (state g old).is_open × IsTrue (state g new).is_open)
  pub was_open : IsFaithful g new → IsTrue (state g new).is_open → IsTrue (state g old).is_open
  pub undone : IsFaithful g new → IsTrue (state g new).is_open
      → OnErr r (StaysAsIs (state g old) (state g new))
  pub survives : KeepsTables g old new
