use Rattle.journal_format.proofs.MoreStylesLemmas.{printable_stays}
use Rattle.journal_format.proofs.law.printable_growth_law.Goals as goal

pub returns : goal.returns
returns c = printable_stays
