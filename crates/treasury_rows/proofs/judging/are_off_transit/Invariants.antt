use Rattle.std.proofs.Common.{drop}
use Rattle.std.specs.Prelude.{◌↔◌}
use Rattle.std.specs.List.{AllByRecursion}
use Rattle.treasury_state.specs.Good.{IsOffTransit}
use Rattle.treasury_rows.proofs.judging.are_off_transit.Given as goal

abbrev pub invariant-loop-row : goal.invariant-loop-row
invariant-loop-row l = AllByRecursion IsOffTransit (drop l.row-index l.rows) ↔ AllByRecursion IsOffTransit l.rows
