use Rattle.treasury_core.proofs.ClosingPrinted.{closing_legs, closing_printable}
use Rattle.treasury_laws.proofs.law.closing_law.Goals as goal

pub returns-clause-entry : goal.returns-clause-entry
returns-clause-entry c = closing_legs

pub returns-clause-printable : goal.returns-clause-printable
returns-clause-printable c = closing_printable
