use Rattle.std.proofs.Common.{◌≡◌, drop, ◌+ℤ◌, pos, ◌≤ℤ◌}
use Rattle.treasury_state.specs.Transfer.{open_amount}
use Rattle.treasury_state.proofs.transit.open_between.Given as goal

abbrev pub invariant-loop-transfer : goal.invariant-loop-transfer
invariant-loop-transfer l = record {
  sums : l.sum +ℤ open_amount (drop l.transfer-index l.transfers) l.from l.to l.unit l.day
      ≡ open_amount l.transfers l.from l.to l.unit l.day;
  low : pos 0 ≤ℤ l.sum;
}
