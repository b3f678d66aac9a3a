use Rattle.treasury_api.proofs.HistoryLemmas.{commands_run, commands_end}
use Rattle.treasury_api.proofs.laws.commands_law.Goals as goal

pub returns-clause-run : goal.returns-clause-run
returns-clause-run c = commands_run

pub returns-clause-end : goal.returns-clause-end
returns-clause-end c = commands_end
