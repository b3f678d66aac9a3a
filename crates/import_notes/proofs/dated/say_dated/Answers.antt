use Rattle.std.proofs.Common.{◌≡◌, ◌∙◌, ◌++◌, ℕ, List, [], ◌∷◌, Option, Some, None, ap, sym, subst, append-nil}
use Rattle.std.specs.Prelude.{OnOk, slice_get, decimal}
use Rattle.treasury_state.specs.declared.record.Record.{Record}
use Rattle.treasury_state.proofs.IndexLemmas.{copied_get}
use Rattle.treasury_messages.specs.declared.kind.MessageKind.TheVariants as is
use Rattle.treasury_messages.specs.Pieces.{shown_day}
use Rattle.treasury_messages.specs.Said.{Said, says}
use Rattle.import_notes.specs.Dated.{date_said_of}
use Rattle.import_notes.proofs.dated.say_dated.Goals as goal

pub returns-in_default : goal.returns-in_default
returns-in_default c =
    let it = c.args.import.now in
    let old = c.args.out.now.items in
    sym (append-nil old)
    ∙ ap (λ (r : Option Record). old ++ date_said_of it.source.now it.text.now r
    (slice_get c.args.lines.now c.args.place))
    (copied_get None it.new.now c.args.place c.in_default.ensures.lookup.0 c.in_default.ensures.lookup.1)

pub returns-in_default-get : goal.returns-in_default-get
returns-in_default-get c =
    let it = c.args.import.now in
    let old = c.args.out.now.items in
    sym (append-nil old)
    ∙ ap (λ (h : Option ℕ). old ++ date_said_of it.source.now it.text.now (Some c.in-Some.row.now) h)
    (copied_get None c.args.lines.now c.args.place c.in_default-get.ensures.lookup.0
    c.in_default-get.ensures.lookup.1)
    ∙ ap (λ (r : Option Record). old ++ date_said_of it.source.now it.text.now r
    (slice_get c.args.lines.now c.args.place))
    (copied_get (Some c.in-Some.row) it.new.now c.args.place c.in-Some.ensures.lookup.0 c.in-Some.ensures.lookup.1)

pub returns : goal.returns
returns c =
    let it = c.args.import.now in
    let old = c.args.out.now.items in
    subst (λ (said : List Said). OnOk c.say.result (c.say.new.out.items ≡ old ++ said))
    (ap (λ (n : ℕ). says is.DatedPosting (it.source.now ∷ decimal n ∷ shown_day c.in-Some.row.now.entry.day ∷ []) ∷ [])
    c.dated_line.ensures
    ∙ ap (λ (h : Option ℕ). date_said_of it.source.now it.text.now (Some c.in-Some.row.now) h)
    (copied_get (Some c.in-Some-get.header) c.args.lines.now c.args.place c.in-Some-get.ensures.lookup.0
    c.in-Some-get.ensures.lookup.1)
    ∙ ap (λ (r : Option Record). date_said_of it.source.now it.text.now r (slice_get c.args.lines.now c.args.place))
    (copied_get (Some c.in-Some.row) it.new.now c.args.place c.in-Some.ensures.lookup.0 c.in-Some.ensures.lookup.1))
    c.say.ensures.ok
