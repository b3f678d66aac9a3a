use Rattle.std.proofs.Common.{◌+◌, ◌∙◌, arith, refl}
use Rattle.journal_lines.proofs.LineSteps.{whole_rest}
use Rattle.http_request.proofs.AcceptLemmas.{range_cut, range_whole}
use Rattle.http_request.proofs.accept.is_json_range.Goals as goal

pub returns-then-at-range : goal.returns-then-at-range
returns-then-at-range c =
    c.is_json_with.ensures ∙ range_cut c.args.range.now _ _ c.first_place-at.result c.first_place-at.ensures.place
    (omega (arith, c.if-at-range.true)) refl
    (whole_rest (c.first_place-at.result + 1) c.args.range.now)

pub returns-else-at-range : goal.returns-else-at-range
returns-else-at-range c =
    c.is_json_type.ensures ∙ range_whole c.args.range.now c.first_place-at.result c.first_place-at.ensures.place
    (let within = c.first_place-at.ensures.bound in omega (arith, c.if-at-range.false, within))
