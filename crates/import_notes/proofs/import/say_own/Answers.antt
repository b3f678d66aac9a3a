use Rattle.std.proofs.Common.{◌≡◌, ◌++◌, ◌∙◌, List, ap, sym}
use Rattle.std.proofs.lemmas.Result.{on_ok_weaker}
use Rattle.journal_format.specs.declared.txn.Located.{Located}
use Rattle.treasury_state.specs.declared.record.Record.{Record}
use Rattle.treasury_core.specs.Step.{records_in_file}
use Rattle.treasury_messages.specs.Said.{Said}
use Rattle.import_notes.specs.Imported.{import_view}
use Rattle.import_notes.specs.ImportNotes.{is_grown, notes_with, notes_in}
use Rattle.import_notes.proofs.ImportNoteLemmas.{named_with, none_appended}
use Rattle.import_notes.proofs.import.say_own.Goals as goal

pub returns-then-is_any : goal.returns-then-is_any
returns-then-is_any g c = λ list reads.
    let it = import_view c.args.import.now in
    let styles = c.args.styles.now in
    let grown = is_grown c.args.before (g.L.Ledger.book c.args.branch.now.ledger) in
    let read = c.in_ok-read.read in
    let names = c.in_ok-names.names in
    let file = c.in_ok-read.ensures.only list reads in
    let rows = c.in_ok-read.ensures.value.rows ∙ ap (records_in_file styles) file in
    let old = c.args.out.now.items in
    on_ok_weaker c.say_read.result
    (λ e. e
    ∙ ap (λ (xs : List Located). old ++ notes_with styles it names xs read.rows) file
    ∙ ap (λ (rs : List Record). old ++ notes_with styles it names list rs) rows
    ∙ ap (λ (ns : List Said). old ++ ns)
    (named_with styles it grown names list (records_in_file styles list) c.in_ok-names.ensures))
    (c.say_read.ensures (c.as_slice-then-is_any.ensures.value ∙ c.in_ok-pairs.ensures))

pub returns : goal.returns
returns g c = λ list reads.
    let it = import_view c.args.import.now in
    let styles = c.args.styles.now in
    let grown = is_grown c.args.before (g.L.Ledger.book c.args.branch.now.ledger) in
    let rows = records_in_file styles list in
    none_appended c.args.out.now.items (notes_in styles it grown list rows)
    (sym (named_with styles it grown c.in_ok-names.names list rows c.in_ok-names.ensures)
    ∙ c.is_any.ensures list rows (c.as_slice.ensures.value ∙ c.in_ok-pairs.ensures) c.if-is_any.false)
