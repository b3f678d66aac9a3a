use Rattle.treasury_api.proofs.TakenLemmas.{answered_is_read}
use Rattle.treasury_api.proofs.laws.taken_law.Goals as goal

pub returns : goal.returns
returns c = answered_is_read
