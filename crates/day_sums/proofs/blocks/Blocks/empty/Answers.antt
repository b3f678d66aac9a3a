use Rattle.std.proofs.Common.{sym}
use Rattle.day_sums.proofs.BlockLemmas.{no_spread, spread_as}
use Rattle.day_sums.proofs.blocks.Blocks.empty.Goals as goal

pub invariant_of-result : goal.invariant_of-result
invariant_of-result c = spread_as _ _ _ _ (sym c.empty.ensures) (sym c.new.ensures.empty) no_spread
