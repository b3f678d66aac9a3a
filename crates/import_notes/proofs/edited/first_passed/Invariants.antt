use Rattle.std.proofs.Common.{◌≡◌, ◌++◌, drop, None}
use Rattle.import_notes.specs.Edited.{first_passed, passes_at}
use Rattle.import_notes.proofs.edited.first_passed.Given as goal

-- those so far, and those of the rest
abbrev pub invariant-loop-pair : goal.invariant-loop-pair
invariant-loop-pair l =
    l.edited.items ++ first_passed (passes_at l.read.rows l.held) l.last (drop l.pair-index l.pairs)
    ≡ first_passed (passes_at l.read.rows l.held) None l.pairs
