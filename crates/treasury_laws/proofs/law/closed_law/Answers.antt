use Rattle.treasury_core.proofs.ClosingLemmas.{balance_of_closed, moved_on, balance_of_gaining}
use Rattle.treasury_laws.proofs.AcceptedClosing.{untouched, unmoved_before}
use Rattle.treasury_laws.proofs.law.closed_law.Goals as goal

pub returns-clause-closed : goal.returns-clause-closed
returns-clause-closed c = balance_of_closed

pub returns-clause-moved : goal.returns-clause-moved
returns-clause-moved c = moved_on

pub returns-clause-gained : goal.returns-clause-gained
returns-clause-gained c = balance_of_gaining

pub returns-clause-untouched : goal.returns-clause-untouched
returns-clause-untouched c = untouched

pub returns-clause-before : goal.returns-clause-before
returns-clause-before c = unmoved_before
