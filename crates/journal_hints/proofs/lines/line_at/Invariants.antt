use Rattle.std.proofs.Common.{◌≡◌}
use Rattle.journal_lines.specs.Lines.{lines, numbered as lines_from}
use Rattle.journal_hints.specs.Numbered.{item_of_number}
use Rattle.journal_hints.proofs.LineLemmas.{with_number}
use Rattle.journal_hints.proofs.lines.line_at.Given as goal

-- the line is among those that are left
abbrev pub invariant-loop-number : goal.invariant-loop-number
invariant-loop-number l = with_number l.line (lines_from l.number-iterator.number l.number-iterator.rest.now)
    ≡ item_of_number (lines l.text) l.line
