use Rattle.treasury_reasons.proofs.ReadingLemmas.{index_next}
use Rattle.treasury_reasons.proofs.reading.places_of.Goals as goal

pub loop-place-preserved : goal.loop-place-preserved
loop-place-preserved c =
    index_next c.args.rows.now c.loop-place.place c.index-rows-place.result c.loop-place.places
    c.put_place.new.index _
    c.loop-place-test.true c.index-rows-place.is c.as_str.ensures c.loop-place.invariant c.in_ok-put_place.ensures.put
