use Rattle.std.proofs.Common.{◌≡◌, ◌+◌, ◌∙◌, arith, sym, true, false, Bool, List, cond}
use Rattle.treasury_state.specs.Room.{is_key_before}
use Rattle.treasury_state.proofs.SearchLemmas.{key_stops, key_passes, key_end}
use Rattle.treasury_state.proofs.order.place_of_key.Goals as goal

pub returns-then-not-is_key_before-clause-value : goal.returns-then-not-is_key_before-clause-value
returns-then-not-is_key_before-clause-value c =
    c.part.invariant.count ∙ key_stops c.args.key.now c.args.parts.now c.part.part-index c.part-item.result
    c.part-test.true c.part-item.is (sym c.is_key_before.ensures ∙ c.if-not-is_key_before.true)
    c.part.invariant.place

pub part-preserved : goal.part-preserved
part-preserved c = record {
  count = omega (arith, c.part.invariant.count);
  place = key_passes c.args.key.now c.args.parts.now c.part.part-index c.part-item.result c.part-test.true
      c.part-item.is (sym c.is_key_before.ensures ∙ c.if-not-is_key_before.false) c.part.invariant.place;
}

pub returns-clause-value : goal.returns-clause-value
returns-clause-value c = c.part.invariant.count ∙ key_end c.args.key.now c.args.parts.now c.part.part-index
    c.part-test.false c.part.invariant.place
