use Rattle.std.proofs.Common.{ℕ}
use Rattle.treasury_state.specs.Rows.{transfer_row}
use Rattle.treasury_rows.proofs.SameRowLemmas.{Walk}
use Rattle.treasury_rows.proofs.same_rows.are_transfer_rows.Given as goal

-- the rows so far are those of the items so far: what is open is whether the rest has the rows that are left
abbrev pub invariant-loop-i : goal.invariant-loop-i
invariant-loop-i l = Walk (λ (k : ℕ). (transfer_row l.branches)) 0 l.i l.i l.transfers l.list
