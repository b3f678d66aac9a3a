-- Mirrors code: what the ledger with sums by day keeps beside its list of entries.
use Rattle.std.specs.Prelude.{◌≤◌, List, length}
use Rattle.book_core.specs.declared.entry.Entry.{Entry}
use Rattle.book_core.specs.declared.sums.Sums.{Sums}
use Rattle.book_core.specs.declared.account.Reach.TheVariants.{Own, Inside}
use Rattle.book_core.specs.DayRows.{AreSums, AreMoved}
use Rattle.book_core.specs.GoodBook.{most_entries}

-- the sums are those of the book, which has no more entries than a book may have; the turnovers are its turnovers, of
-- no more commodities than there are numbers for
pub record AreSumsOf (sums : Sums) (b : List Entry) : Type 0 where
  pub own : AreSums Own sums.own b
  pub inside : AreSums Inside sums.inside b
  pub moved : AreMoved sums.moved.items b
  pub few_units : length sums.moved.items ≤ 65536
  pub few : length b ≤ most_entries
