use Rattle.std.proofs.Common.{◌≡◌, ◌++◌, drop}
use Rattle.import_notes.specs.Edited.{pairs_from}
use Rattle.import_notes.proofs.edited.find_pairs.Given as goal

-- those so far, and those of the rest
abbrev pub invariant-loop-at : goal.invariant-loop-at
invariant-loop-at l = l.found.items ++ pairs_from l.held l.at (drop l.at l.new) ≡ pairs_from l.held 0 l.new
