use Rattle.std.proofs.Common.{◌≡◌, ◌∙◌, true, false, arith, sym}
use Rattle.treasury_state.proofs.PartRowLemmas.{IsOf}
use Rattle.treasury_rows.proofs.BranchRowLemmas.{all_more, counted_own, stops_here, stops_behind}
use Rattle.treasury_rows.proofs.drafting.transfer_rows.count_own.Goals as goal

pub returns-then-not-is_own-clause-value : goal.returns-then-not-is_own-clause-value
returns-then-not-is_own-clause-value c = λ own rest o r e.
    c.part.invariant.count
    ∙ counted_own (IsOf c.args.id.now) c.args.rows.now own rest c.part.row-index c.part.invariant.own
    (omega (arith, c.part-test.true))
    (stops_here (IsOf c.args.id.now) c.args.rows.now c.part.row-index c.row-item.result c.part-test.true c.row-item.is
    (λ p. let k : true ≡ false = sym (c.is_own.ensures.1 p) ∙ c.if-not-is_own.true in cc)) o r e

pub part-preserved : goal.part-preserved
part-preserved c = record {
  count = omega (arith, c.part.invariant.count);
  own = all_more (IsOf c.args.id.now) c.args.rows.now c.part.row-index c.row-item.result c.part-test.true c.row-item.is
      c.part.invariant.own (c.is_own.ensures.0 c.if-not-is_own.false);
}

pub returns-clause-value : goal.returns-clause-value
returns-clause-value c = λ own rest o r e.
    c.part.invariant.count ∙ counted_own (IsOf c.args.id.now) c.args.rows.now own rest c.part.row-index
    c.part.invariant.own (omega (arith, c.part.auto.row-index-end))
    (stops_behind (IsOf c.args.id.now) c.args.rows.now c.part.row-index c.part-test.false) o r e
