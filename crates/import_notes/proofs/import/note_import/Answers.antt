use Rattle.std.proofs.Common.{◌≡◌, ◌++◌, ◌∙◌, List, Bool, false, length, ap, sym, subst, arith, rules}
use Rattle.std.specs.Prelude.{OnOk, ◌==◌, if◌then◌else◌}
use Rattle.std.proofs.lemmas.Grind.{common_steps}
use Rattle.std.proofs.lemmas.Result.{on_ok_weaker}
use Rattle.money_core.specs.declared.style.Style.{Style}
use Rattle.journal_format.specs.declared.txn.Located.{Located}
use Rattle.journal_format.specs.Pieces.{Reads}
use Rattle.treasury_core.specs.Step.{records_in_file}
use Rattle.import_notes.specs.Imported.{import_view}
use Rattle.import_notes.specs.ImportNotes.{is_grown, notes_in}
use Rattle.import_notes.specs.Marks.{has_transaction, nothing_said}
use Rattle.import_notes.specs.OtherBranch.{other_note}
use Rattle.import_notes.proofs.ImportNoteLemmas.{appended_two}
use Rattle.import_notes.proofs.import.note_import.Goals as goal

pub returns : goal.returns
returns g c = λ list printable reads.
    let it = import_view c.args.import.now in
    let f = c.args.state.now in
    let grown = is_grown c.args.before (g.L.Ledger.book c.args.branch.now.ledger) in
    let old = c.args.out.now.items in
    let now = c.say_other_branch.new.out.items in
    let all = c.say_own.new.out.items in
    let told : List Style → Type 0 = λ styles. (list : List Located) → Reads styles it.text list
    → OnOk c.say_own.result (all ≡ now ++ notes_in styles it grown list (records_in_file styles list)) in
    let notes = other_note f it.branch it.new ++ notes_in f.styles it grown list (records_in_file f.styles list) in
    let some : (length it.new == 0) ≡ false = first_of (search rules, grind arith, grind (arith, common_steps)) in
    on_ok_weaker c.say_own.result
    (λ e. appended_two old now all (other_note f it.branch it.new)
    (notes_in f.styles it grown list (records_in_file f.styles list))
    (c.in_ok-say_other_branch.ensures printable) e
    ∙ sym (ap (λ (t : Bool). old ++ (if t then nothing_said it.source (has_transaction it.text) else notes)) some))
    (subst told c.styles.ensures c.say_own.ensures list reads)
