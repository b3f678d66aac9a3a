use Rattle.journal_lines.proofs.Utf8Lemmas.{front_found}
use Rattle.journal_lines.proofs.comment.front_of.Goals as goal

pub returns-in-Some-clause-utf8 : goal.returns-in-Some-clause-utf8
returns-in-Some-clause-utf8 c = λ h. (front_found c.args.line.now c.in-Some.at c.in-Some.ensures h).0
