use Rattle.journal_balance.proofs.GrowthLemmas.{legs_of-append}
use Rattle.journal_balance.proofs.law.entry_growth_law.Goals as goal

pub returns : goal.returns
returns c =
    λ styles more t printable. legs_of-append styles more (c.growth_law.ensures.stays styles more) t printable.postings
