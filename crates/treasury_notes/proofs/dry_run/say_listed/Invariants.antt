use Rattle.std.proofs.Common.{◌≡◌, ◌++◌, take}
use Rattle.std.specs.List.{flat_map}
use Rattle.treasury_reasons.specs.Reading.{line_of}
use Rattle.treasury_notes.specs.DryRun.{new_entry_said}
use Rattle.treasury_notes.proofs.dry_run.say_listed.Given as goal

-- those so far
abbrev pub invariant-loop-row : goal.invariant-loop-row
invariant-loop-row l =
    l.out.items ≡ l.fn.out.items
    ++ flat_map (new_entry_said l.source (line_of l.read.file.items l.read.rows)) (take l.row-index l.first)
