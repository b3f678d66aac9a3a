use Rattle.std.proofs.Common.{false, sym, subst}
use Rattle.journal_lines.specs.Lines.{numbered}
use Rattle.journal_hints.specs.OddAmount.{odd_amounts}
use Rattle.journal_hints.proofs.OddLemmas.{HaveNone, have_none}
use Rattle.journal_hints.proofs.amounts.may_have_odd.Goals as goal

pub returns : goal.returns
unfolding odd_amounts
returns c = λ heads no.
    have_none c.args.styles.now (numbered 1 c.args.text.now) heads false
    (c.lines.invariant (subst (HaveNone c.args.styles.now) (sym c.in-None.ensures.steps.0) tt))
