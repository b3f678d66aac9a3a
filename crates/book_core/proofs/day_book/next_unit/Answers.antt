use Rattle.std.proofs.Common.{List, ℕ, subst}
use Rattle.book_core.specs.DayRows.{moved_at, IsNextMoved}
use Rattle.book_core.proofs.NextLemmas.{next_of_table, next_of_book}
use Rattle.book_core.proofs.day_book.next_unit.Goals as goal

pub returns : goal.returns
returns c =
    next_of_book c.book.inside.old.now c.book.inside.new c.args.book.now c.args.unit c.next_moved-kept.result
    c.next_unit-added.result c.lower_of.result
    (next_of_table c.book.inside.sums.now.moved.items c.book.inside.old.now c.args.unit c.next_moved-kept.result
    c.book.invariant.1.moved
    (subst (λ (t : List ℕ). IsNextMoved (moved_at t) c.args.unit c.next_moved-kept.result) c.deref.ensures.value
    c.next_moved-kept.ensures))
    c.next_unit-added.ensures c.lower_of.ensures c.book.view_is
