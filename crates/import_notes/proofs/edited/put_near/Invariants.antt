use Rattle.std.proofs.Common.{◌≡◌, ◌++◌, drop}
use Rattle.std.specs.List.{flat_map}
use Rattle.import_notes.specs.Edited.{near, pairs_near, pairs_of}
use Rattle.import_notes.proofs.edited.put_near.Given as goal

-- those so far, and those of the rest
abbrev pub invariant-loop-likeness : goal.invariant-loop-likeness
invariant-loop-likeness l =
    l.found.items ++ flat_map (pairs_near l.held l.at l.new) (drop l.likeness-index near)
    ≡ l.fn.found.items ++ pairs_of l.held l.at l.new
