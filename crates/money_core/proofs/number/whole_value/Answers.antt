use Rattle.std.proofs.Common.{arith, ◌∙◌, sym, ◌<◌, length}
use Rattle.money_core.proofs.ValueLemmas.{value_more_digit, value_more_other}
use Rattle.money_core.proofs.number.whole_value.Goals as goal
use Rattle.money_core.proofs.number.whole_value.Goals.{then-is_ascii_digit, else-is_ascii_digit}

pub loop-byte-preserved : goal.loop-byte-preserved
loop-byte-preserved c =
    let inside : c.loop-byte.byte-index < length c.args.text.now = omega arith in
    elim c.if-is_ascii_digit.branch [
      | then-is_ascii_digit w ↦ w.value-is ∙
          (w.push_digit-value.ensures ∙ value_more_digit c.args.text.now c.loop-byte.byte-index c.loop-byte.value
          10_000_000_000_000_001 inside (sym c.is_ascii_digit.ensures.value ∙ w.if-is_ascii_digit.true)
          c.loop-byte.invariant)
      | else-is_ascii_digit w ↦ w.value-is ∙ value_more_other c.args.text.now c.loop-byte.byte-index c.loop-byte.value
          10_000_000_000_000_001 inside (sym c.is_ascii_digit.ensures.value ∙ w.if-is_ascii_digit.false)
          c.loop-byte.invariant
    ]
