-- What a run over the lines has yet to give.
use Rattle.std.specs.Prelude.{ℕ, List}
use Rattle.journal_lines.specs.declared.lines.Lines.{Lines}
use Rattle.journal_lines.specs.Lines.{numbered}

-- the lines that are left, with their numbers
abbrev pub lines_left : Lines → List (ℕ × List ℕ)
lines_left run = numbered run.number run.rest.now
