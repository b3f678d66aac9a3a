use Rattle.std.proofs.Common.{◌∙◌}
use Rattle.http_request.proofs.EndLemmas.{more_ends}
use Rattle.http_request.proofs.head.may_end.Goals as goal

pub loop-end-preserved : goal.loop-end-preserved
loop-end-preserved c = record {
  kept = c.is_ended_by.ensures.kept ∙ c.loop-end.invariant.kept;
  none = more_ends c.args.text.now.items c.loop-end.text.items c.args.ends.now c.loop-end.end-index c.loop-end-test.true
      c.loop-end.invariant.kept c.loop-end.invariant.none
      (rw c.in-Ok-false.field-0-test at c.in-Ok-false.ensures.found);
}
