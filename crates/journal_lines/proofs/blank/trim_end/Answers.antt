use Rattle.journal_lines.proofs.Utf8Lemmas.{end_found, empty_utf8}
use Rattle.journal_lines.proofs.blank.trim_end.Goals as goal

pub returns-in-Some-clause-utf8 : goal.returns-in-Some-clause-utf8
returns-in-Some-clause-utf8 c = end_found c.args.text.now c.in-Some.count c.in-Some.ensures

pub returns-in-None-clause-utf8 : goal.returns-in-None-clause-utf8
returns-in-None-clause-utf8 c = λ _. empty_utf8
