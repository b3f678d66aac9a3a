use Rattle.std.proofs.Common.{◌≡◌, drop, filter}
use Rattle.treasury_tables.specs.Kinds.{is_leg}
use Rattle.treasury_tables.proofs.tables.leg.next_leg.Given as goal

abbrev pub invariant-loop-at : goal.invariant-loop-at
invariant-loop-at l = filter is_leg l.changes ≡ filter is_leg (drop l.at l.changes)
