use Rattle.std.proofs.Common.{◌≡◌, ◌++◌, drop}
use Rattle.std.specs.List.{flat_map}
use Rattle.treasury_reasons.specs.Reading.{lines_by}
use Rattle.import_notes.proofs.places.lines_of.Given as goal

-- those so far, and those of the rest
abbrev pub invariant-loop-record : goal.invariant-loop-record
invariant-loop-record l =
    l.lines.items ++ flat_map (lines_by l.read.file.items l.read.rows) (drop l.record-index l.new)
    ≡ flat_map (lines_by l.read.file.items l.read.rows) l.new
