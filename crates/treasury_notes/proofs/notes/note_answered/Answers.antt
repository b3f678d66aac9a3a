use Rattle.std.proofs.Common.{◌≡◌, ◌++◌, ◌∙◌, ap, sym, subst, refl, take, drop, Bool, List, [], None}
use Rattle.std.specs.Prelude.{OnOk, if◌then◌else◌}
use Rattle.book_core.specs.declared.entry.Entry.{Entry}
use Rattle.journal_format.specs.Printable.{IsPrintable}
use Rattle.treasury_state.specs.declared.record.Record.{Record}
use Rattle.treasury_state.specs.Federation.{branch_at, records_of, entries}
use Rattle.treasury_state.specs.Seen.{branch_of}
use Rattle.treasury_state.proofs.FindLemmas.{branch_at_Some, branch_at_None}
use Rattle.treasury_requests.specs.declared.request.Request.{Request}
use Rattle.treasury_requests.specs.Request.{branch_asked}
use Rattle.import_notes.specs.Imported.{imported}
use Rattle.import_notes.specs.ImportNotes.{is_grown, import_notes, entered_import, entered_notes}
use Rattle.import_notes.specs.OtherBranch.{AreAllPrintable}
use Rattle.import_notes.proofs.ExplainLemmas.{records_printable}
use Rattle.import_notes.proofs.ImportNoteLemmas.{all_drop, none_appended}
use Rattle.treasury_notes.specs.RequestNotes.{branch_in}
use Rattle.treasury_notes.proofs.notes.note_answered.Goals as goal

pub returns-in_default-clause-entered : goal.returns-in_default-clause-entered
returns-in_default-clause-entered g c = λ name journal list read.
    let f = c.args.state.now in
    let source = c.args.source.now in
    let before = c.args.before in
    let notes =
    import_notes f (entered_import f name source journal before) (is_grown before (entries (records_of f name))) list in
    let gone : branch_at f.branches name ≡ None =
    ap (λ (r : Request). branch_in f (branch_asked r)) (sym read.0) ∙ sym c.in_default.ensures.value in
    none_appended c.args.out.now.items (entered_notes f name source journal before list)
    (ap (λ (t : Bool). if t then notes else []) (branch_at_None f.branches name gone).none)

pub returns-clause-entered : goal.returns-clause-entered
returns-clause-entered g c = λ name journal list read.
    let f = c.args.state.now in
    let source = c.args.source.now in
    let before = c.args.before in
    let branch = c.in-Some.branch.now in
    let records = records_of f name in
    let notes = import_notes f (entered_import f name source journal before) (is_grown before (entries records)) list in
    let there = branch_at_Some f.branches name (branch_of branch)
    (ap (λ (r : Request). branch_in f (branch_asked r)) (sym read.0) ∙ sym c.in-Some.ensures.value) in
    let own : branch.records ≡ records = sym there.records in
    let held : c.parted.result.0.now ≡ take before.entries records =
    c.parted.ensures.first ∙ ap (λ (rs : List Record). take before.entries rs) (c.items.ensures ∙ own) in
    let new : c.parted.result.1.now ≡ drop before.entries records =
    c.parted.ensures.rest ∙ ap (λ (rs : List Record). drop before.entries rs) (c.items.ensures ∙ own) in
    let book : g.L.Ledger.book branch.ledger ≡ entries records = c.in-Some.ensures.kept ∙ ap entries own in
    let told : List Record → List Record → List Entry → Type 0 = λ held new b. AreAllPrintable f.styles new
    → OnOk c.note_on.result (c.note_on.new.out.items
    ≡ c.args.out.now.items ++ import_notes f (imported source journal name held new) (is_grown before b) list) in
    let all : told (take before.entries records) (drop before.entries records) (entries records) =
    subst (λ (rs : List Record). told rs (drop before.entries records) (entries records)) held
    (subst (λ (rs : List Record). told c.parted.result.0.now rs (entries records)) new
    (subst (λ (b : List Entry). told c.parted.result.0.now c.parted.result.1.now b) book
    (c.note_on.ensures.entered name journal list read))) in
    subst (λ (t : Bool). OnOk c.note_on.result
    (c.note_on.new.out.items ≡ c.args.out.now.items ++ (if t then notes else []))) (sym there.any)
    (all (all_drop (λ (r : Record). IsPrintable f.styles r.txn) records before.entries
    (records_printable f name f.styles records refl refl c.is_good.ensures)))
