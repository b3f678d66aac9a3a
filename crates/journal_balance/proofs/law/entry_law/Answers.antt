use Rattle.journal_balance.proofs.EntryLemmas.{entry_fit, entry_small, entry_day}
use Rattle.journal_balance.proofs.DeclaredLemmas.{entry_declared, entry_asserts}
use Rattle.journal_balance.proofs.law.entry_law.Goals as goal

pub returns : goal.returns
returns c = record {
  fit = λ styles t e printable h. entry_fit styles t e printable.postings h;
  small = entry_small;
  day = entry_day;
  declared = λ styles t e printable h. entry_declared styles t e printable.postings h;
  asserted = λ styles t e printable h. entry_asserts styles t e printable.postings h;
}
