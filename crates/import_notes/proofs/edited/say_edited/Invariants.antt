use Rattle.std.proofs.Common.{◌≡◌, ◌++◌, take}
use Rattle.std.specs.List.{flat_map}
use Rattle.import_notes.specs.Edited.{edited_said}
use Rattle.import_notes.specs.Imported.{import_view}
use Rattle.treasury_reasons.specs.Reading.{line_of}
use Rattle.import_notes.proofs.edited.say_edited.Given as goal

-- the notes of those so far
abbrev pub invariant-loop-pair : goal.invariant-loop-pair
invariant-loop-pair l =
    l.out.items ≡ l.fn.out.items
    ++ flat_map (edited_said (import_view l.import) (line_of l.read.file.items l.read.rows)) (take l.pair-index l.first)
