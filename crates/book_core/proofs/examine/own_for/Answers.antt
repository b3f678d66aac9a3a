use Rattle.std.proofs.Common.{◌≡◌, ◌≤◌, ◌-◌, ℕ, List, length, get_or, arith, subst}
use Rattle.money_core.specs.declared.unit.Unit.{Unit as Commodity}
use Rattle.book_core.specs.declared.entry.Entry.{Entry}
use Rattle.book_core.specs.Balance.{moved}
use Rattle.book_core.specs.GoodBook.{IsWithin, most_turnover}
use Rattle.book_core.proofs.DayPlaceLemmas.{moved_entry}
use Rattle.book_core.proofs.examine.own_for.Goals as goal

-- an entry of a book within the limits moves no more than the limit
moves : (u : Commodity) (b : List Entry) (n : ℕ) (e : Entry) → IsWithin b
    → (1 ≤ n) × (n ≤ length b) × (e ≡ get_or b (n - 1) e) → moved u e.legs ≤ most_turnover
moves u b n e within at =
    let low = at.0 in
    let high = at.1 in
    omega (arith, within.small u, moved_entry u b (n - 1) e (omega arith) at.2)

pub of-requires-clause-room : goal.of-requires-clause-room
of-requires-clause-room c u =
    moves u c.args.book.now _ c.in-Some-entry.entry.now (subst IsWithin c.book.view_is c.book.invariant.0)
    c.in-Some-entry.ensures.some
