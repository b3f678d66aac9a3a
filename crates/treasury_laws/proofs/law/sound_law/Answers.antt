use Rattle.treasury_laws.proofs.SoundLemmas.{good_balances, good_holds}
use Rattle.treasury_laws.proofs.law.sound_law.Goals as goal

pub returns-clause-balanced : goal.returns-clause-balanced
returns-clause-balanced c f good = good_balances f good

pub returns-clause-asserted : goal.returns-clause-asserted
returns-clause-asserted c f good = good_holds f good
