use Rattle.std.proofs.Common.{◌≡◌, drop, ◌+ℤ◌, pos, ◌≤ℤ◌}
use Rattle.std.specs.List.{AllByRecursion}
use Rattle.treasury_state.specs.Transfer.{sum_of_parts, received_by}
use Rattle.treasury_state.proofs.PartLemmas.{IsPositive}
use Rattle.treasury_state.proofs.transit.received_by.Given as goal

-- with what is left, the sum is that of all, and it is at most what all parts are together
abbrev pub invariant-part : goal.invariant-part
invariant-part l = record {
  whole : l.sum +ℤ received_by (drop l.part-index l.parts) l.day ≡ received_by l.parts l.day;
  high : (l.sum +ℤ sum_of_parts (drop l.part-index l.parts)) ≤ℤ sum_of_parts l.parts;
  low : pos 0 ≤ℤ l.sum;
  each : AllByRecursion IsPositive (drop l.part-index l.parts);
}
