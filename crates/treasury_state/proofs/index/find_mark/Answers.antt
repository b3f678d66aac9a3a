use Rattle.std.proofs.Common.{sym, ◌∙◌}
use Rattle.treasury_state.proofs.IndexLemmas.{held_at_mark_place, held_without_mark_place, copied_get}
use Rattle.treasury_state.proofs.index.find_mark.Goals as goal

pub returns-in-None : goal.returns-in-None
returns-in-None c =
    sym (held_without_mark_place c.args.records.now c.args.mark.now
    (sym (c.in-None.ensures.value ∙ c.requires c.args.mark.now)))

pub returns-in-Some : goal.returns-in-Some
returns-in-Some c =
    copied_get c.get-in-Some.result c.args.records.now c.in-Some.place.now c.get-in-Some.ensures.lookup.0
    c.get-in-Some.ensures.lookup.1 ∙ sym
    (held_at_mark_place c.args.records.now c.args.mark.now c.in-Some.place.now
    (sym (c.in-Some.ensures.value ∙ c.requires c.args.mark.now)))
