use Rattle.std.proofs.Common.{arith, ◌∙◌, ◌<◌, ◌++◌, length, replicate, filter}
use Rattle.std.specs.Char.{is_ascii_digit}
use Rattle.std.proofs.lemmas.Grind.{common_steps}
use Rattle.money_core.proofs.ValueLemmas.{value_more_decimal}
use Rattle.money_core.proofs.number.quantity.Goals as goal

pub loop-place-preserved : goal.loop-place-preserved
loop-place-preserved c =
    let ys = c.args.fraction.now ++ replicate c.args.decimals 48 in
    let inside : c.loop-place.place < length ys = grind (arith, common_steps) in
    c.push_digit-value.ensures ∙ value_more_decimal (filter is_ascii_digit c.args.whole.now) ys c.loop-place.place
    c.loop-place.value _ 10_000_000_000_000_001 inside c.decimal_at-digit.ensures.value c.loop-place.invariant
