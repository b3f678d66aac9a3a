use Rattle.std.proofs.Common.{◌≡◌, drop, ◌-ℤ◌, pos, ◌≤ℤ◌}
use Rattle.std.specs.List.{AllByRecursion}
use Rattle.treasury_state.specs.Transfer.{sum_of_parts}
use Rattle.treasury_state.proofs.PartLemmas.{IsPositive}
use Rattle.treasury_rows.proofs.judging.transfers.are_within.Given as goal

-- what is left less the parts that are left is the quantity less all
abbrev pub invariant-part : goal.invariant-part
invariant-part l = record {
  less : l.left -ℤ sum_of_parts (drop l.part-index l.parts) ≡ l.qty -ℤ sum_of_parts l.parts;
  each : AllByRecursion IsPositive (drop l.part-index l.parts);
  high : l.left ≤ℤ l.qty;
}
