use Rattle.std.proofs.Common.{◌≡◌, ◌++◌, map, take}
use Rattle.std.specs.List.{flat_map}
use Rattle.import_notes.specs.Marks.{unmarked_view, no_mark_said}
use Rattle.import_notes.proofs.marks.say_no_marks.Given as goal

-- the notes of those so far
abbrev pub invariant-loop-one : goal.invariant-loop-one
invariant-loop-one l =
    l.out.items ≡ l.fn.out.items ++ flat_map (no_mark_said l.source) (map unmarked_view (take l.one-index l.first))
