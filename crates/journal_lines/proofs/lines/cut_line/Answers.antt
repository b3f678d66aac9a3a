use Rattle.std.proofs.Common.{◌+◌}
use Rattle.journal_lines.proofs.LineSteps.{lines_found, lines_last, whole_rest}
use Rattle.journal_lines.proofs.lines.cut_line.Goals as goal

pub returns-in-Some-clause-lines : goal.returns-in-Some-clause-lines
returns-in-Some-clause-lines c =
    let text = c.args.text.now in
    let step = lines_found text c.in-Some.at c.in-Some.ensures in
    rw (whole_rest (c.in-Some.at + 1) text, c.without_return.ensures) step.0

pub returns-in-None-clause-lines : goal.returns-in-None-clause-lines
returns-in-None-clause-lines c =
    rw c.without_return-in-None.ensures (lines_last c.args.text.now c.requires c.in-None.ensures)
