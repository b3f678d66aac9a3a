use Rattle.std.proofs.Common.{◌≡◌, ◌+◌, drop}
use Rattle.std.specs.List.{list_any}
use Rattle.book_core.specs.Book.{posted_legs}
use Rattle.treasury_reasons.specs.Failure.{is_seen}
use Rattle.treasury_reasons.proofs.touching.Watched.is_touched_by.Given as goal

-- none of the legs so far is one
abbrev pub invariant-loop-at : goal.invariant-loop-at
invariant-loop-at l =
    list_any (is_seen l.self l.end) (posted_legs l.entry.day l.number (l.at + 1) (drop l.at l.entry.legs))
    ≡ list_any (is_seen l.self l.end) (posted_legs l.entry.day l.number 1 l.entry.legs)
