use Rattle.journal_lines.specs.Lines.{numbered}
use Rattle.journal_hints.proofs.OddLemmas.{HaveNone}
use Rattle.journal_hints.proofs.amounts.may_have_odd.Given as goal

-- if no line that is left has one, none has
abbrev pub invariant-lines : goal.invariant-lines
invariant-lines l =
    HaveNone l.styles (numbered l.line-iterator.number l.line-iterator.rest.now)
    → HaveNone l.styles (numbered 1 l.text)
