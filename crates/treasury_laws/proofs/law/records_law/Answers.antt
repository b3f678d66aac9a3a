use Rattle.treasury_laws.proofs.HistoryLemmas.{run_records, run_moved}
use Rattle.treasury_laws.proofs.law.records_law.Goals as goal

pub returns-clause-records : goal.returns-clause-records
returns-clause-records c = run_records

pub returns-clause-moved : goal.returns-clause-moved
returns-clause-moved c = run_moved
