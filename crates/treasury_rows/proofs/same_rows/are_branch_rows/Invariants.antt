use Rattle.treasury_state.specs.Rows.{branch_row}
use Rattle.treasury_rows.proofs.SameRowLemmas.{Walk}
use Rattle.treasury_rows.proofs.same_rows.are_branch_rows.Given as goal

-- the rows so far are those of the items so far: what is open is whether the rest has the rows that are left
abbrev pub invariant-loop-i : goal.invariant-loop-i
invariant-loop-i l = Walk branch_row 0 l.i l.i l.branches l.list
