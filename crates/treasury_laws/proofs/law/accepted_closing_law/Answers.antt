use Rattle.treasury_laws.proofs.AcceptedClosing.{closing_adds_one, closing_locked, closing_apart, closing_zero}
use Rattle.treasury_laws.proofs.AcceptedClosing.{closing_stays, closing_untouched, closing_elsewhere}
use Rattle.treasury_laws.proofs.law.accepted_closing_law.Goals as goal

pub returns-clause-adds : goal.returns-clause-adds
returns-clause-adds c = closing_adds_one

pub returns-clause-locked : goal.returns-clause-locked
returns-clause-locked c = closing_locked

pub returns-clause-apart : goal.returns-clause-apart
returns-clause-apart c = closing_apart

pub returns-clause-zero : goal.returns-clause-zero
returns-clause-zero c = closing_zero

pub returns-clause-stays : goal.returns-clause-stays
returns-clause-stays c = closing_stays

pub returns-clause-untouched : goal.returns-clause-untouched
returns-clause-untouched c = closing_untouched

pub returns-clause-elsewhere : goal.returns-clause-elsewhere
returns-clause-elsewhere c = closing_elsewhere
