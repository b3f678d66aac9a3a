use Rattle.std.proofs.Common.{◌≡◌, ◌++◌, take}
use Rattle.std.specs.List.{flat_map}
use Rattle.import_notes.specs.Edited.{pair_at}
use Rattle.import_notes.proofs.edited.put_on.Given as goal

-- those so far
abbrev pub invariant-loop-place : goal.invariant-loop-place
invariant-loop-place l =
    l.found.items ≡ l.fn.found.items ++ flat_map (pair_at l.held l.at l.new l.likeness) (take l.place-index l.places)
