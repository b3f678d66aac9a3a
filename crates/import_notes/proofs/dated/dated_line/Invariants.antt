use Rattle.std.proofs.Common.{◌≡◌, false}
use Rattle.journal_lines.specs.Lines.{numbered}
use Rattle.import_notes.proofs.DatedLemmas.{date_left}
use Rattle.import_notes.proofs.dated.dated_line.Given as goal

-- the tag is in the lines that are left
abbrev pub invariant-loop-number : goal.invariant-loop-number
invariant-loop-number l =
    date_left l.is_on_posting l.header (numbered l.number-iterator.number l.number-iterator.rest.now)
    ≡ date_left false l.header (numbered 1 l.text)
