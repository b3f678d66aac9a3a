use Rattle.std.proofs.Common.{◌++◌, ◌∙◌, ap, sym, append-nil, Option}
use Rattle.std.proofs.lemmas.Option.{slice_get_past, slice_get-get_or}
use Rattle.std.proofs.lemmas.Result.{on_ok_weaker}
use Rattle.treasury_state.specs.declared.record.Record.{Record}
use Rattle.treasury_reasons.specs.Refused.{record_said}
use Rattle.treasury_reasons.proofs.at_fault.say_record.Goals as goal

pub returns-then-place-records : goal.returns-then-place-records
returns-then-place-records c =
    sym (append-nil c.args.out.now.items)
    ∙ ap (λ (o : Option Record). c.args.out.now.items ++ record_said c.args.place o)
    (sym (slice_get_past c.args.records.now c.args.place c.if-place-records.true))

pub returns : goal.returns
returns c =
    let records = c.args.records.now in
    let place = c.args.place in
    on_ok_weaker c.say.result
    (λ e. e
    ∙ ap (λ (o : Option Record). c.args.out.now.items ++ record_said place o)
    (sym (slice_get-get_or records place c.index-records-place.result c.if-place-records.false)))
    c.say.ensures.ok
