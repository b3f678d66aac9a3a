use Rattle.treasury_laws.proofs.ElsewhereLemmas.{transfers_elsewhere, closings_elsewhere}
use Rattle.treasury_laws.proofs.law.other_journal_law.Goals as goal

pub returns-clause-transfers : goal.returns-clause-transfers
returns-clause-transfers c = transfers_elsewhere

pub returns-clause-closings : goal.returns-clause-closings
returns-clause-closings c = closings_elsewhere
