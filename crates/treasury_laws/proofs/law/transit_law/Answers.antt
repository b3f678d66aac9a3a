use Rattle.treasury_state.proofs.FairLemmas.{adds_up_named, open_low_named}
use Rattle.treasury_laws.proofs.law.transit_law.Goals as goal

pub returns-clause-adds_up : goal.returns-clause-adds_up
returns-clause-adds_up c = adds_up_named

pub returns-clause-low : goal.returns-clause-low
returns-clause-low c = open_low_named
