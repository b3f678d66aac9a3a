use Rattle.std.proofs.Common.{arith}
use Rattle.std.proofs.lemmas.Int.{ints}
use Rattle.book_core.proofs.TouchedLemmas.{first_more, below_day, not_below_day}
use Rattle.book_core.proofs.reached.first_day.Goals as goal
use Rattle.book_core.proofs.reached.first_day.Goals.{then-lt, else-lt}

pub loop-entry-preserved : goal.loop-entry-preserved
loop-entry-preserved c =
    let first = c.loop-entry.first in
    let entry = c.entry-item.result in
    let es = c.args.entries.now in
    let i = c.loop-entry.entry-index in
    elim c.if-lt.branch [
      | then-lt w ↦ rw w.first-is (first_more first es i entry entry.day.0 c.loop-entry-test.true c.entry-item.is
          (below_day entry.day.0 first.0 c.lt.result c.lt.ensures w.if-lt.true) (omega (arith, ints))
          c.loop-entry.invariant)
      | else-lt w ↦ rw w.first-is (first_more first es i entry first.0 c.loop-entry-test.true c.entry-item.is
          (omega (arith, ints)) (not_below_day entry.day.0 first.0 c.lt.result c.lt.ensures w.if-lt.false)
          c.loop-entry.invariant)
    ]
