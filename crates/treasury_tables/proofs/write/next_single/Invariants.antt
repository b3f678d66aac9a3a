use Rattle.std.proofs.Common.{◌≡◌, drop, filter}
use Rattle.treasury_tables.specs.Kinds.{is_single}
use Rattle.treasury_tables.proofs.write.next_single.Given as goal

abbrev pub invariant-loop-at : goal.invariant-loop-at
invariant-loop-at l = filter is_single l.changes ≡ filter is_single (drop l.at l.changes)
