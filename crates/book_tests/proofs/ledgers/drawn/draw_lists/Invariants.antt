use Rattle.book_core.specs.GoodBook.{IsGoodBook}
use Rattle.book_tests.proofs.ledgers.drawn.draw_lists.Given as goal

abbrev pub invariant-loop-2 : goal.invariant-loop-2
invariant-loop-2 g l = record {
  plain : IsGoodBook l.plain;
  by_day : IsGoodBook l.by_day;
}
