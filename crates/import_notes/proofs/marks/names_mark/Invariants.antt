use Rattle.std.proofs.Common.{◌≡◌, drop}
use Rattle.import_notes.specs.Marks.{names_mark}
use Rattle.import_notes.proofs.marks.names_mark.Given as goal

-- what is left decides
abbrev pub invariant-loop-at : goal.invariant-loop-at
invariant-loop-at l = names_mark (drop l.at l.comment) ≡ names_mark l.comment
