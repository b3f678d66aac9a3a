use Rattle.std.proofs.Common.{◌≡◌, drop, filter}
use Rattle.treasury_tables.specs.Kinds.{is_entry}
use Rattle.treasury_tables.proofs.tables.entry.next_entry.Given as goal

abbrev pub invariant-loop-at : goal.invariant-loop-at
invariant-loop-at l = filter is_entry l.changes ≡ filter is_entry (drop l.at l.changes)
