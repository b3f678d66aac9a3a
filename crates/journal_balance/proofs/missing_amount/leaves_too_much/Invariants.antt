use Rattle.std.proofs.Common.{◌≡◌, ◌-◌, length, pos}
use Rattle.std.specs.List.{list_any, flat_map}
use Rattle.money_core.specs.declared.unit.Unit.{Unit as Commodity}
use Rattle.journal_balance.specs.Legs.{commodities, sum_of, rest_leg, rest_legs, is_large}
use Rattle.journal_balance.proofs.missing_amount.leaves_too_much.Given as goal

abbrev pub invariant-loop-number : goal.invariant-loop-number
invariant-loop-number l =
    list_any is_large (flat_map (λ (unit : Commodity). rest_leg l.account unit (sum_of l.styles unit l.postings))
    (commodities l.number (length l.styles - l.number)))
    ≡ list_any is_large (rest_legs l.styles l.account l.postings)
