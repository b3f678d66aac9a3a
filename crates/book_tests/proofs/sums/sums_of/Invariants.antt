use Rattle.book_tests.proofs.SumLemmas.{AreUpTo}
use Rattle.book_tests.proofs.sums.sums_of.Given as goal

abbrev pub invariant-loop-more : goal.invariant-loop-more
invariant-loop-more l = AreUpTo l.limit l.sums
