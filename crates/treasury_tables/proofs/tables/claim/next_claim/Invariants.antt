use Rattle.std.proofs.Common.{◌≡◌, drop, filter}
use Rattle.treasury_tables.specs.Kinds.{is_claim}
use Rattle.treasury_tables.proofs.tables.claim.next_claim.Given as goal

abbrev pub invariant-loop-at : goal.invariant-loop-at
invariant-loop-at l = filter is_claim l.changes ≡ filter is_claim (drop l.at l.changes)
