use Rattle.std.proofs.Common.{◌≡◌, ◌++◌, map}
use Rattle.std.specs.List.{flat_map}
use Rattle.journal_lines.specs.Lines.{numbered}
use Rattle.journal_hints.specs.OddAmount.{odd_view, odd_line, odd_amounts, lines_below}
use Rattle.journal_hints.proofs.amounts.find_odd.Given as goal

-- what was found, and what is left
abbrev pub invariant-loop-number : goal.invariant-loop-number
invariant-loop-number l =
    map odd_view l.found.items
    ++ flat_map (odd_line l.styles) (lines_below l.below.heads.now l.below.inside
    (numbered l.number-iterator.number l.number-iterator.rest.now))
    ≡ odd_amounts l.styles l.heads l.text
