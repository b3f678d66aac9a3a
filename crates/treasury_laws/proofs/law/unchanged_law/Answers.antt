use Rattle.treasury_laws.proofs.OwnLemmas.{none_new_stays}
use Rattle.treasury_laws.proofs.law.unchanged_law.Goals as goal

pub returns-clause-none_new : goal.returns-clause-none_new
returns-clause-none_new c f name file repeated h = none_new_stays f name file repeated h
