use Rattle.std.proofs.Common.{◌+◌}
use Rattle.treasury_state.specs.Rows.{leg_row}
use Rattle.treasury_rows.proofs.SameRowLemmas.{Walk}
use Rattle.treasury_rows.proofs.same_rows.are_leg_rows.Given as goal

-- the rows so far are those of the items so far: what is open is whether the rest has the rows that are left
abbrev pub invariant-loop-i : goal.invariant-loop-i
invariant-loop-i l = Walk (leg_row l.branch l.entry) 1 (l.i + 1) l.i l.legs l.list
