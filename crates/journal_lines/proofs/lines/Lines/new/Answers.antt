use Rattle.journal_lines.proofs.LineLemmas.{lines_make_up, made_up_alone}
use Rattle.journal_lines.proofs.lines.Lines.new.Goals as goal

pub returns-clause-rule : goal.returns-clause-rule
returns-clause-rule c = lines_make_up c.args.text.now

pub returns-clause-only : goal.returns-clause-only
returns-clause-only c = λ ls h. made_up_alone ls c.args.text.now h
