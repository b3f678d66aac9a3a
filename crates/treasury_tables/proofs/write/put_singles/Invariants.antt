use Rattle.std.proofs.Common.{◌≡◌, filter, length, IsTrue}
use Rattle.sqlite.specs.State.{HasCleanDisk, KeepsCommit, Survives}
use Rattle.sqlite.specs.Held.{state}
use Rattle.treasury_tables.specs.Rows.{Tables, HoldsTables, written}
use Rattle.treasury_tables.specs.Kinds.{is_single}
use Rattle.treasury_tables.proofs.write.put_singles.Given as goal

abbrev pub invariant-ones : goal.invariant-ones
invariant-ones g l =
    let old = state g.S.Store l.fn.tx.conn.now in
    let now = state g.S.Store l.tx.conn.now in
    (l.tx.conn.ghost_name ≡ l.initial.tx.conn.ghost_name) × Survives old now (λ _. ⊥)
    × (HasCleanDisk now → KeepsCommit old now × (IsTrue old.in_transaction → IsTrue now.in_transaction)
    × ((t : Tables) → HoldsTables old.now t
    → (u : Tables) × HoldsTables now.now u
    × (written (filter is_single l.rest) u ≡ written (filter is_single l.changes) t)))

abbrev pub decreases-ones : goal.decreases-ones
decreases-ones g l = length l.rest
