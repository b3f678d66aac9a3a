use Rattle.std.proofs.Common.{◌≡◌, ◌++◌, map, take}
use Rattle.std.specs.List.{flat_map}
use Rattle.journal_hints.specs.OddAmount.{odd_view, odd_said}
use Rattle.journal_hints.proofs.amounts.say_odds.Given as goal

-- the notes of those so far
abbrev pub invariant-loop-odd : goal.invariant-loop-odd
invariant-loop-odd l =
    l.out.items ≡ l.fn.out.items ++ flat_map (odd_said l.styles l.source) (map odd_view (take l.odd-index l.first))
