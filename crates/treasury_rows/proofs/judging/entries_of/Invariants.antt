use Rattle.std.proofs.Common.{◌≡◌, take}
use Rattle.treasury_state.specs.Federation.{entries}
use Rattle.treasury_rows.proofs.judging.entries_of.Given as goal

abbrev pub invariant-loop-row : goal.invariant-loop-row
invariant-loop-row l = l.list.items ≡ entries (take l.row-index l.rows)
