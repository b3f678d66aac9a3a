use Rattle.treasury_laws.proofs.LockLemmas.{run_locked, run_balance}
use Rattle.treasury_laws.proofs.law.lock_law.Goals as goal

pub returns-clause-locked : goal.returns-clause-locked
returns-clause-locked c = run_locked

pub returns-clause-balances : goal.returns-clause-balances
returns-clause-balances c = run_balance
