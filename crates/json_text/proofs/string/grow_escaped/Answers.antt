use Rattle.std.proofs.Common.{◌∙◌, sym}
use Rattle.json_text.specs.JsonText.{escaped}
use Rattle.json_text.proofs.GrowLemmas.{grows_as}
use Rattle.json_text.proofs.Spelling.{escaped_small, escaped_other}
use Rattle.json_text.proofs.string.grow_escaped.Goals as goal

pub returns-then-is_marked : goal.returns-then-is_marked
unfolding escaped
returns-then-is_marked c =
    let marked = sym c.is_marked.ensures ∙ c.if-is_marked.true in
    rw marked c.grow_bytes.ensures

pub returns-then-is_control : goal.returns-then-is_control
returns-then-is_control c =
    let marked = sym c.is_marked.ensures ∙ c.if-is_marked.false in
    let small = sym c.is_control.ensures ∙ c.if-is_control.true in
    grows_as _ _ _ _ _
    (escaped_small c.args.byte c.hex_digit-high.result c.hex_digit-low.result marked small c.hex_digit-high.ensures
    c.hex_digit-low.ensures)
    c.grow_bytes-then-is_control.ensures

pub returns : goal.returns
returns c =
    let marked = sym c.is_marked.ensures ∙ c.if-is_marked.false in
    let large = sym c.is_control.ensures ∙ c.if-is_control.false in
    grows_as _ _ _ _ _ (escaped_other c.args.byte marked large) c.grow_bytes-2.ensures
