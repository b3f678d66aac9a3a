use Rattle.std.proofs.Common.{◌≡◌, take}
use Rattle.treasury_state.specs.Seen.{branches_of}
use Rattle.treasury_store.specs.Numbers.{records_each}
use Rattle.treasury_store.proofs.numbers.records_each.Given as goal

-- so far
abbrev pub invariant-branch : goal.invariant-branch
invariant-branch g l = l.records.items ≡ records_each (branches_of (take l.branch-index l.branches))
