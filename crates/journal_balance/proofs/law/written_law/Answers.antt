use Rattle.journal_balance.proofs.WrittenLemmas.{legs_of-written}
use Rattle.journal_balance.proofs.law.written_law.Goals as goal

pub returns : goal.returns
returns c = legs_of-written
