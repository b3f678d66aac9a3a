use Rattle.http_request.proofs.EndLemmas.{spaces_more, bound_more}
use Rattle.http_request.proofs.head.spaces.Goals as goal

pub loop-byte-preserved : goal.loop-byte-preserved
loop-byte-preserved c = record {
  counted = spaces_more c.args.text.now c.loop-byte.byte-index c.loop-byte.count c.space-count.result
      c.loop-byte-test.true c.loop-byte.invariant.counted c.space-count.ensures;
  bound = bound_more c.loop-byte.count c.space-count.result c.loop-byte.byte-index _ c.loop-byte.invariant.bound
      c.space-count.ensures;
}
