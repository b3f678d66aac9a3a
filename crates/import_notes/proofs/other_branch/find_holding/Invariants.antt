use Rattle.std.proofs.Common.{◌≡◌, drop}
use Rattle.std.specs.Option.{option_map}
use Rattle.treasury_state.specs.Seen.{branches_of}
use Rattle.import_notes.specs.OtherBranch.{AreAllPrintable, holding_view, most_from, most_holding}
use Rattle.import_notes.proofs.other_branch.find_holding.Given as goal

-- the most of those so far, and of those that are left
abbrev pub invariant-loop-other : goal.invariant-loop-other
invariant-loop-other g l =
    AreAllPrintable l.state.styles l.new
    → most_from l.state l.branch l.new (option_map holding_view l.most) (branches_of (drop l.other-index l.branches))
    ≡ most_holding l.state l.branch l.new
