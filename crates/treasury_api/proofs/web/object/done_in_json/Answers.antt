use Rattle.std.proofs.Common.{◌∙◌, ◌-◌, arith, None, length, length-take, ap, sym}
use Rattle.treasury_api.proofs.BesideLemmas.{done_as, noted_as, said_there}
use Rattle.treasury_api.proofs.JsonLemmas.{told_of}
use Rattle.treasury_api.proofs.web.object.done_in_json.Goals as goal

pub done_object-requires-clause-line : goal.done_object-requires-clause-line
done_object-requires-clause-line g c =
    let s = c.requires.short (sym c.is_report.ensures ∙ c.if-is_report.false) in
    let t = ap length c.as_slice.ensures.value in
    let e = ap length c.line_of.ensures in
    let k = length-take (length c.as_slice.result.now - 1) c.as_slice.result.now in
    omega (arith, s, t, e, k)

pub returns-clause-other : goal.returns-clause-other
returns-clause-other g c other =
    done_as c.args.text.items c.as_slice.result.now c.entries_told-entries.result _ c.done_object.result.items
    c.as_slice.ensures.value
    (told_of _ c.state-2.result c.args.treasury.now.held c.args.request.now c.entries_told-entries.result
    c.entries_told-entries.ensures c.state-2.ensures) (rw c.line_of.ensures at c.done_object.ensures.done)

pub returns-clause-noted : goal.returns-clause-noted
returns-clause-noted g c other = (
  c.said_beside-noted.result.items,
  said_there _ c.state.result c.args.treasury.now.held c.args.request.now _ c.args.grounds.now None
      c.said_beside-noted.result.items c.state.ensures c.said_beside-noted.ensures,
  noted_as c.args.text.items c.as_slice.result.now c.said_beside-noted.result.items c.as_slice-2.result.now
      c.entries_told-entries.result _ c.done_object.result.items c.as_slice.ensures.value c.as_slice-2.ensures.value
      (told_of _ c.state-2.result c.args.treasury.now.held c.args.request.now c.entries_told-entries.result
      c.entries_told-entries.ensures c.state-2.ensures) (rw c.line_of.ensures at c.done_object.ensures.noted),
)
