use Rattle.treasury_state.specs.Rows.{unit_row}
use Rattle.treasury_rows.proofs.SameRowLemmas.{Walk}
use Rattle.treasury_rows.proofs.same_rows.are_unit_rows.Given as goal

-- the rows so far are those of the commodities so far: what is open is whether the rest has the rows that are left
abbrev pub invariant-loop-i : goal.invariant-loop-i
invariant-loop-i l = Walk unit_row 0 l.i l.i l.styles l.list
