use Rattle.book_core.specs.GoodBook.{IsGoodBook}
use Rattle.book_tests.proofs.ledgers.holding.Given as goal

abbrev pub invariant-loop-entry : goal.invariant-loop-entry
invariant-loop-entry g l = IsGoodBook (g.L.Ledger.book l.ledger)
