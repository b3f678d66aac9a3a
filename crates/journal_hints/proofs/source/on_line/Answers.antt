use Rattle.journal_hints.proofs.LeftOverLemmas.{on_next, on_here}
use Rattle.journal_hints.proofs.source.on_line.Goals as goal

pub loop-located-preserved : goal.loop-located-preserved
loop-located-preserved c =
    on_next c.args.line c.in-Some.located _ _ _ c.in-Some.ensures.steps.0 c.if-located-line.false
    c.loop-located.invariant

pub returns-then-located-line : goal.returns-then-located-line
returns-then-located-line c =
    on_here c.args.line c.in-Some.located _ _ _ c.in-Some.ensures.steps.0 c.if-located-line.true
    c.loop-located.invariant
