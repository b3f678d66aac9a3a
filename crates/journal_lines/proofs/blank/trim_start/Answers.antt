use Rattle.journal_lines.proofs.LineSteps.{whole_rest}
use Rattle.journal_lines.proofs.Utf8Lemmas.{start_found, empty_utf8}
use Rattle.journal_lines.proofs.blank.trim_start.Goals as goal

pub returns-in-Some-clause-utf8 : goal.returns-in-Some-clause-utf8
returns-in-Some-clause-utf8 c =
    rw (whole_rest c.in-Some.at c.args.text.now) (start_found c.args.text.now c.in-Some.at c.in-Some.ensures)

pub returns-in-None-clause-utf8 : goal.returns-in-None-clause-utf8
returns-in-None-clause-utf8 c = λ _. empty_utf8
