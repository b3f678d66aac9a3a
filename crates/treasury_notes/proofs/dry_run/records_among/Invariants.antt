use Rattle.std.proofs.Common.{◌≡◌, take}
use Rattle.treasury_notes.specs.DryRun.{records_added}
use Rattle.treasury_notes.proofs.dry_run.records_among.Given as goal

-- those of the additions so far
abbrev pub invariant-loop-addition : goal.invariant-loop-addition
invariant-loop-addition l = l.records.items ≡ records_added (take l.addition-index l.additions)
