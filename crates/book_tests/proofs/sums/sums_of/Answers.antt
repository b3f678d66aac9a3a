use Rattle.std.proofs.Common.{subst, sym}
use Rattle.day_sums.specs.Points.{IsUpTo}
use Rattle.book_tests.proofs.SumLemmas.{zero_up_to}
use Rattle.book_tests.proofs.sums.sums_of.Goals as goal

pub loop-more-init : goal.loop-more-init
loop-more-init c = λ a u p. subst (IsUpTo 0) (sym (c.empty-sums.ensures a u p)) (zero_up_to 0)

pub moved-requires : goal.moved-requires
moved-requires c = c.loop-more.invariant

pub loop-more-preserved : goal.loop-more-preserved
loop-more-preserved c = c.in_ok-limit.ensures
