use Rattle.std.proofs.Common.{◌≡◌, ◌≤◌, take}
use Rattle.std.specs.List.{count_by}
use Rattle.import_notes.specs.OtherBranch.{AreAllPrintable, is_held_so}
use Rattle.import_notes.proofs.other_branch.count_held.Given as goal

-- those of the new records so far
abbrev pub invariant-loop-record : goal.invariant-loop-record
invariant-loop-record l =
    (l.count ≤ l.record-index)
    × (AreAllPrintable l.styles l.records → AreAllPrintable l.styles l.new
    → l.count ≡ count_by (is_held_so l.styles l.records) (take l.record-index l.new))
