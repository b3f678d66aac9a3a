use Rattle.std.proofs.Common.{◌≡◌, ◌-◌, length, pos}
use Rattle.std.specs.Ordering.{int_eq}
use Rattle.std.specs.List.{list_all}
use Rattle.money_core.specs.declared.unit.Unit.{Unit as Commodity}
use Rattle.journal_balance.specs.Legs.{commodities, sum_of, is_even}
use Rattle.journal_balance.proofs.missing_amount.is_even.Given as goal

abbrev pub invariant-loop-number : goal.invariant-loop-number
invariant-loop-number l =
    list_all (λ (unit : Commodity). int_eq (sum_of l.styles unit l.postings) (pos 0))
    (commodities l.number (length l.styles - l.number)) ≡ is_even l.styles l.postings
