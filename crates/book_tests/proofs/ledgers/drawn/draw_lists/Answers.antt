use Rattle.std.proofs.Common.{subst, sym}
use Rattle.book_core.specs.GoodBook.{IsGoodBook}
use Rattle.book_core.proofs.GoodBookLemmas.{good_nil}
use Rattle.book_tests.proofs.ledgers.drawn.draw_lists.Goals as goal

pub loop-2-init : goal.loop-2-init
loop-2-init g c = record {
  plain = subst IsGoodBook (sym c.empty-plain.ensures) good_nil;
  by_day = subst IsGoodBook (sym c.empty-by_day.ensures) good_nil;
}
