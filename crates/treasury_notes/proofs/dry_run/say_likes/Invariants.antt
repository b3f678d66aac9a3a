use Rattle.std.proofs.Common.{◌≡◌, ◌++◌, take}
use Rattle.std.specs.List.{flat_map}
use Rattle.treasury_notes.specs.DryRun.{like_transfer_said}
use Rattle.treasury_notes.proofs.dry_run.say_likes.Given as goal

-- those of the additions so far
abbrev pub invariant-loop-addition : goal.invariant-loop-addition
invariant-loop-addition l =
    l.out.items ≡ l.fn.out.items ++ flat_map (like_transfer_said l.held) (take l.addition-index l.additions)
