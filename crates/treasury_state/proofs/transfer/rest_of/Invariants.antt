use Rattle.std.proofs.Common.{◌≡◌, drop, ◌-ℤ◌, ◌+ℤ◌, pos, ◌≤ℤ◌}
use Rattle.std.specs.List.{AllByRecursion}
use Rattle.treasury_state.specs.Transfer.{sum_of_parts}
use Rattle.treasury_state.proofs.PartLemmas.{IsPositive}
use Rattle.treasury_state.proofs.transfer.rest_of.Given as goal

-- less the parts that are left to take away, it is what all parts leave
abbrev pub invariant-part : goal.invariant-part
invariant-part l = record {
  less : l.left ≡ (l.transfer.qty -ℤ sum_of_parts l.transfer.parts) +ℤ sum_of_parts (drop l.part-index l.part-items);
  low : pos 0 ≤ℤ (l.transfer.qty -ℤ sum_of_parts l.transfer.parts);
  each : AllByRecursion IsPositive (drop l.part-index l.part-items);
  high : l.left ≤ℤ l.transfer.qty;
}
