use Rattle.treasury_laws.proofs.OwnLemmas.{printed_reads, printed_enters}
use Rattle.treasury_laws.proofs.law.printed_journal_law.Goals as goal

pub returns-clause-reads : goal.returns-clause-reads
returns-clause-reads c = printed_reads

pub returns-clause-enters : goal.returns-clause-enters
returns-clause-enters c = printed_enters
