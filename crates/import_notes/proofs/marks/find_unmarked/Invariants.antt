use Rattle.std.proofs.Common.{◌≡◌, map, take}
use Rattle.treasury_reasons.specs.Reading.{line_of}
use Rattle.import_notes.specs.Marks.{unmarked_view, unmarked_in}
use Rattle.import_notes.proofs.marks.find_unmarked.Given as goal

-- those of the transactions so far
abbrev pub invariant-loop-row : goal.invariant-loop-row
invariant-loop-row l =
    map unmarked_view l.found.items ≡ unmarked_in (line_of l.read.file.items l.read.rows) (take l.row-index l.new)
