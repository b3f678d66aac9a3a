use Rattle.std.proofs.Common.{◌≡◌, ◌-◌, ◌++◌, length}
use Rattle.std.specs.List.{flat_map}
use Rattle.money_core.specs.declared.unit.Unit.{Unit as Commodity}
use Rattle.journal_balance.specs.Legs.{commodities, sum_of}
use Rattle.journal_hints.specs.LeftOver.{left_said, left_over_said}
use Rattle.journal_hints.proofs.source.say_rest.Given as goal

-- what is appended so far, and then the lines of the commodities that are left, is the whole text
abbrev pub invariant-loop-number : goal.invariant-loop-number
invariant-loop-number l =
    l.out.items
    ++ flat_map (λ (unit : Commodity). left_said l.styles unit (sum_of l.styles unit l.postings))
    (commodities l.number (length l.styles - l.number))
    ≡ l.fn.out.items ++ left_over_said l.styles l.postings
