use Rattle.std.proofs.Common.{arith}
use Rattle.treasury_reasons.proofs.FailureLemmas.{touching_next}
use Rattle.treasury_reasons.proofs.touching.find_touching.Goals as goal

pub loop-row-preserved : goal.loop-row-preserved
loop-row-preserved c = record {
  all = touching_next c.args.watched.now c.args.end c.loop-row.number c.loop-row.row-index c.args.new.now _ _ _
      c.row-item.result c.is_touched_by-is.result c.loop-row-test.true c.row-item.is
      c.is_touched_by-is.ensures c.in_ok-push_if.ensures c.loop-row.invariant.all;
  numbered = omega (arith, c.loop-row.invariant.numbered);
}
