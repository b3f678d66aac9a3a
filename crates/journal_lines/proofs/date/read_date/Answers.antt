use Rattle.journal_lines.proofs.DateLemmas.{date_of_is, date_iff, read_range}
use Rattle.journal_lines.proofs.date.read_date.Goals as goal

pub returns-clause-range : goal.returns-clause-range
returns-clause-range c = read_range c.args.text.now c.day_of_date.result c.day_of_date.ensures

pub returns-clause-value : goal.returns-clause-value
returns-clause-value c = date_of_is c.args.text.now c.day_of_date.result c.day_of_date.ensures

pub returns-clause-reads : goal.returns-clause-reads
returns-clause-reads c = date_iff c.args.text.now c.day_of_date.result c.day_of_date.ensures
