use Rattle.treasury_laws.proofs.HeadlineLemmas.{keeps_books}
use Rattle.treasury_laws.proofs.law.headline_law.Goals as goal

pub returns : goal.returns
returns c = keeps_books
