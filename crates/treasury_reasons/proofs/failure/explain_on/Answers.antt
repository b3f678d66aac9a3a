use Rattle.std.proofs.Common.{◌∙◌, ◌++◌, ap, List, Option}
use Rattle.std.specs.Borrow.{Bor}
use Rattle.std.specs.Option.{option_map}
use Rattle.treasury_messages.specs.Said.{Said}
use Rattle.treasury_state.specs.declared.record.Record.{Record}
use Rattle.journal_hints.specs.Numbered.{item_of_number}
use Rattle.treasury_reasons.specs.Failure.{failure_of, failure_said}
use Rattle.treasury_reasons.specs.Reading.{line_of}
use Rattle.treasury_reasons.proofs.FailureLemmas.{said_thrice}
use Rattle.treasury_reasons.proofs.failure.explain_on.Goals as goal

pub returns : goal.returns
unfolding failure_said
returns c =
    let f = c.args.failure.now in
    let records = c.args.records.now in
    let read = c.args.brought.now.read in
    let line = line_of read.file.items read.rows in
    let say : List Record → Option Record → List Said = λ new o.
    failure_of c.args.styles.now records c.args.source.now c.args.text.now line new f o in
    let new = c.items-new.result.now in
    said_thrice c.new-said.result.items c.say_claim.new.out.items c.say_amounts.new.out.items
    c.say_touching_leg.new.out.items _ _ _ c.in_ok-say_claim.ensures c.in_ok-say_amounts.ensures
    c.in_ok-say_touching_leg.ensures
    ∙ ap (λ (xs : List Said). xs ++ say new (option_map (λ (r : Bor Record). r.now) c.entry_at-row.result))
    c.new-said.ensures.items
    ∙ ap (λ (o : Option Record). say new o) c.entry_at-row.ensures
    ∙ ap (λ (ns : List Record). say ns (item_of_number (records ++ ns) f.place.entry)) c.items-new.ensures
