use Rattle.std.proofs.Common.{◌+◌, ◌-◌, ◌/◌, arith}
use Rattle.day_sums.proofs.SpotLemmas.{through_middle, behind_middle}
use Rattle.day_sums.proofs.spots.count_through.Goals as goal

pub halves-preserved-then-is_through : goal.halves-preserved-then-is_through
halves-preserved-then-is_through c = record {
  order = omega arith;
  bound = c.halves.invariant.bound;
  through = through_middle c.args.spots.now c.args.day (c.halves.low + (c.halves.high - c.halves.low) / 2) _
      c.is_through.result c.requires (omega arith) c.is_through.ensures c.if-is_through.true;
  behind = c.halves.invariant.behind;
}

pub halves-preserved : goal.halves-preserved
halves-preserved c = record {
  order = omega arith;
  bound = omega arith;
  through = c.halves.invariant.through;
  behind = behind_middle c.args.spots.now c.args.day (c.halves.low + (c.halves.high - c.halves.low) / 2) _
      c.is_through.result c.requires (omega arith) c.is_through.ensures c.if-is_through.false;
}
