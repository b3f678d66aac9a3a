use Rattle.std.proofs.Common.{◌≡◌, take}
use Rattle.treasury_state.specs.Federation.{names_of}
use Rattle.treasury_state.specs.Seen.{branches_of}
use Rattle.treasury_store.proofs.numbers.names_of.Given as goal

-- so far
abbrev pub invariant-branch : goal.invariant-branch
invariant-branch g l = l.names ≡ names_of (branches_of (take l.branch-index l.branches))
