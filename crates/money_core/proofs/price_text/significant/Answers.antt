use Rattle.std.proofs.Common.{◌<◌, ◌∙◌, arith, length, sym, ne_eqb}
use Rattle.money_core.proofs.CostDecimals.{significant_more_zero, significant_more_other}
use Rattle.money_core.proofs.price_text.significant.Goals as goal
use Rattle.money_core.proofs.price_text.significant.Goals.{then-digit-ne48, else-digit-ne48}

pub loop-place-preserved : goal.loop-place-preserved
loop-place-preserved c =
    let inside : c.loop-place.place < length c.args.fraction.now = omega arith in
    elim c.if-digit-ne48.branch [
      | then-digit-ne48 w ↦ (
        w.count-is ∙ sym
            (significant_more_other c.args.fraction.now c.loop-place.place inside (ne_eqb _ _ w.if-digit-ne48.true)),
        omega arith,
      )
      | else-digit-ne48 w ↦ (
        w.count-is ∙
            (c.loop-place.invariant.0 ∙ sym
            (significant_more_zero c.args.fraction.now c.loop-place.place inside w.if-digit-ne48.false)),
        omega arith,
      )
    ]
