use Rattle.std.proofs.Common.{◌≡◌, map, take}
use Rattle.treasury_state.specs.Seen.{branches_of}
use Rattle.treasury_files.specs.Counts.{count_of_records}
use Rattle.treasury_files.proofs.shrinking.entries_in.Given as goal

-- the entries of the branches so far
abbrev pub invariant-branch : goal.invariant-branch
invariant-branch g l = l.entries ≡ map count_of_records (branches_of (take l.branch-index l.branches))
