use Rattle.std.proofs.Common.{ap, ◌∙◌}
use Rattle.journal_lines.specs.declared.lines.Lines.{Lines}
use Rattle.journal_lines.specs.Lines.{lines, numbered as lines_from}
use Rattle.journal_hints.proofs.LineLemmas.{with_number, from_one, line_next}
use Rattle.journal_hints.proofs.lines.line_at.Goals as goal

pub loop-number-init : goal.loop-number-init
loop-number-init c =
    ap (with_number c.args.line)
    (ap (λ (it : Lines). lines_from it.number it.rest.now) c.into_iter-number-iterator.ensures.into_iter_gives
    ∙ c.new-number-items.ensures.list)
    ∙ from_one c.args.line (lines c.args.text.now)

pub loop-number-preserved : goal.loop-number-preserved
loop-number-preserved c =
    line_next c.args.line (c.in-Some.number, c.in-Some.bytes.now) _ _ _ c.in-Some.ensures.steps
    c.if-number-line.false c.loop-number.invariant
