use Rattle.std.proofs.Common.{◌≡◌, ◌≤◌, ◌+◌, ◌+ℤ◌, drop}
use Rattle.std.specs.Prelude.{unsigned_abs}
use Rattle.book_core.specs.Balance.{value, moved}
use Rattle.book_core.specs.GoodBook.{most_turnover}
use Rattle.journal_balance.specs.Plain.{written_legs}
use Rattle.treasury_core.proofs.closing.sum_in.Given as goal

-- the sum so far and that of the rest are that of all, and their sizes keep within the turnover
abbrev pub invariant-loop-posting : goal.invariant-loop-posting
invariant-loop-posting l = record {
  sums : l.sum +ℤ value l.unit (written_legs (drop l.posting-index l.postings))
      ≡ value l.unit (written_legs l.postings);
  small : unsigned_abs l.sum + moved l.unit (written_legs (drop l.posting-index l.postings)) ≤ most_turnover;
}
