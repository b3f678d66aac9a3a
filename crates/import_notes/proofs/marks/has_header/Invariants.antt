use Rattle.std.proofs.Common.{◌≡◌, false}
use Rattle.journal_lines.specs.Lines.{numbered}
use Rattle.import_notes.specs.Marks.{has_header}
use Rattle.import_notes.proofs.marks.has_header.Given as goal

-- one of the lines that are left decides
abbrev pub invariant-loop-line : goal.invariant-loop-line
invariant-loop-line l =
    has_header l.in_block (numbered l.line-iterator.number l.line-iterator.rest.now)
    ≡ has_header false (numbered 1 l.text)
