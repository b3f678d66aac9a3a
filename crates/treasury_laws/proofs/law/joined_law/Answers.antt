use Rattle.treasury_core.specs.Step.{reply}
use Rattle.treasury_core.proofs.JoinedLemmas.{after_joined}
use Rattle.treasury_laws.proofs.JoinedLemmas.{run_joined}
use Rattle.treasury_laws.proofs.law.joined_law.Goals as goal

pub returns-clause-step : goal.returns-clause-step
returns-clause-step c f command = after_joined f command (reply f command)

pub returns-clause-run : goal.returns-clause-run
returns-clause-run c f turns = run_joined f turns
