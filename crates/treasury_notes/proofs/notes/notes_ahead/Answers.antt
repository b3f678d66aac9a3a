use Rattle.std.proofs.Common.{◌≡◌, ◌++◌, ◌∙◌, ap, sym, subst, true, true≢false, List, None}
use Rattle.std.specs.Prelude.{OnOk}
use Rattle.treasury_state.specs.declared.record.Record.{Record}
use Rattle.treasury_state.specs.Federation.{branch_at}
use Rattle.treasury_state.specs.Seen.{branch_of}
use Rattle.treasury_state.proofs.FindLemmas.{branch_at_Some, branch_at_None}
use Rattle.treasury_requests.specs.declared.request.Request.{Request}
use Rattle.treasury_requests.specs.Request.{branch_asked}
use Rattle.import_notes.specs.Imported.{imported}
use Rattle.import_notes.specs.ImportNotes.{import_notes}
use Rattle.treasury_notes.specs.RequestNotes.{branch_in}
use Rattle.treasury_notes.proofs.notes.notes_ahead.Goals as goal

pub returns-in_default-clause-entered : goal.returns-in_default-clause-entered
returns-in_default-clause-entered g c = λ name journal list ahead.
    let f = c.args.state.now in
    let gone : branch_at f.branches name ≡ None =
    ap (λ (r : Request). branch_in f (branch_asked r)) (sym ahead.is.0) ∙ sym c.in_default.ensures.value in
    absurd (true≢false (sym ahead.there ∙ (branch_at_None f.branches name gone).none))

pub returns-clause-entered : goal.returns-clause-entered
returns-clause-entered g c = λ name journal list ahead.
    let f = c.args.state.now in
    let there = branch_at_Some f.branches name (branch_of c.in-Some.branch.now)
    (ap (λ (r : Request). branch_in f (branch_asked r)) (sym ahead.is.0) ∙ sym c.in-Some.ensures.value) in
    let told : List Record → Type 0 = λ held. OnOk c.note_on.result (c.note_on.new.out.items
    ≡ c.args.out.now.items
    ++ import_notes f (imported c.args.source.now journal name held c.args.new.now) true list) in
    subst told (c.items-held.ensures ∙ sym there.records)
    (c.note_on.ensures.entered name journal list ahead.is ahead.printable)
