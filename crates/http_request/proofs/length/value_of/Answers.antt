use Rattle.std.proofs.Common.{◌<◌, ◌∙◌, arith, length, refl, []}
use Rattle.money_core.proofs.ValueLemmas.{value_more_decimal}
use Rattle.http_request.proofs.LengthLemmas.{digit_at}
use Rattle.http_request.proofs.length.value_of.Goals as goal

pub push_digit-value-requires-clause-digit : goal.push_digit-value-requires-clause-digit
push_digit-value-requires-clause-digit c =
    let inside : c.loop-digit.digit-index < length c.args.digits.now = omega arith in
    digit_at c.args.digits.now c.loop-digit.digit-index inside c.requires

pub loop-digit-preserved : goal.loop-digit-preserved
loop-digit-preserved c =
    let inside : c.loop-digit.digit-index < length c.args.digits.now = omega arith in
    c.push_digit-value.ensures ∙ value_more_decimal [] c.args.digits.now c.loop-digit.digit-index c.loop-digit.value _
    8_388_609 inside refl c.loop-digit.invariant
