use Rattle.journal_lines.proofs.Utf8Lemmas.{word_found}
use Rattle.journal_lines.proofs.blank.first_word.Goals as goal

pub returns-in-Some-clause-utf8 : goal.returns-in-Some-clause-utf8
returns-in-Some-clause-utf8 c = word_found c.args.text.now c.in-Some.at c.in-Some.ensures
