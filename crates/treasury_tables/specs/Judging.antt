-- Tables of version 1 are read as they stand, and judged (own rule; docs/RULES.md, "The program").
use Rattle.std.specs.Prelude.{◌≡◌, IsTrue}
use Rattle.sqlite.specs.Store.{Ghosts}
use Rattle.sqlite.specs.State.{Survives}
use Rattle.sqlite.specs.Held.{Held, state}
use Rattle.treasury_tables.specs.Kept.{IsFaithful, HasOtherTables}
use Rattle.treasury_tables.specs.Tables.{first_schema}

-- Tables of version 1 were read: where they are committed, a connection that is still open shows what it showed, and
-- that is committed; and a crash leaves what it could leave before.
pub record ReadsFirst {S : Type 0} (g : Ghosts S) (old new : Held S) : Type 0 where
  pub same : IsFaithful g new → IsTrue (state g new).is_open → (state g old).now.schema ≡ first_schema
      → (state g old).committed ≡ (state g old).now
      → ((state g new).now ≡ (state g old).now) × ((state g new).committed ≡ (state g old).committed)
  pub survives : Survives (state g old) (state g new) (λ _. HasOtherTables first_schema (state g old).now)

-- The same with success: all is as it was.
pub record HasReadFirst {S : Type 0} (g : Ghosts S) (old new : Held S) : Type 0 where
  pub same : IsFaithful g new → (state g old).now.schema ≡ first_schema
      → ((state g new).now ≡ (state g old).now) × ((state g new).committed ≡ (state g old).committed)
  pub survives : Survives (state g old) (state g new) (λ _. HasOtherTables first_schema (state g old).now)
