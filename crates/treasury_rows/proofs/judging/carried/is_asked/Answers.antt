use Rattle.std.proofs.Common.{◌∙◌, ap, sym}
use Rattle.treasury_state.specs.Mark.{held}
use Rattle.treasury_state.proofs.HolderLemmas.{is_held_if_Some, is_held_if_None}
use Rattle.treasury_rows.proofs.judging.carried.is_asked.Goals as goal

pub returns-in-Some : goal.returns-in-Some
returns-in-Some c =
    let rows = c.args.rows.now in
    sym (is_held_if_Some rows c.args.row.now.mark c.in-Some.field-0.now
    (ap (held rows) (sym c.as_str.ensures) ∙ sym c.in-Some.ensures))

pub returns-in-None : goal.returns-in-None
returns-in-None c =
    let rows = c.args.rows.now in
    sym (is_held_if_None rows c.args.row.now.mark (ap (held rows) (sym c.as_str.ensures) ∙ sym c.in-None.ensures))
