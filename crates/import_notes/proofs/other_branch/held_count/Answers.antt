use Rattle.std.proofs.Common.{◌≡◌, ◌∙◌, ap, sym, subst, refl, List}
use Rattle.std.specs.Prelude.{IfOk}
use Rattle.std.specs.List.{count_by}
use Rattle.money_core.specs.declared.style.Style.{Style}
use Rattle.treasury_state.specs.declared.record.Record.{Record}
use Rattle.treasury_state.specs.Federation.{records_of}
use Rattle.treasury_state.specs.Seen.{branch_of}
use Rattle.treasury_state.proofs.FindLemmas.{branch_at_Some}
use Rattle.import_notes.specs.OtherBranch.{AreAllPrintable, is_held_so}
use Rattle.import_notes.proofs.BranchLemmas.{no_records}
use Rattle.import_notes.proofs.ExplainLemmas.{records_printable}
use Rattle.import_notes.proofs.OtherBranchLemmas.{none_held}
use Rattle.import_notes.proofs.other_branch.held_count.Goals as goal

pub returns-in-Some : goal.returns-in-Some
returns-in-Some g c = λ printable.
    let f = c.args.state.now in
    let name = c.args.name.now in
    let new = c.args.new.now in
    let counted : List Style → List Record → Type 0 = λ styles records.
    AreAllPrintable styles records → AreAllPrintable styles new
    → IfOk c.count_held.result (λ count. count ≡ count_by (is_held_so styles records) new) in
    let records = c.items-records.ensures
    ∙ sym (branch_at_Some f.branches name (branch_of c.in-Some.branch.now) c.in-Some.ensures.found).records in
    subst (λ (styles : List Style). counted styles (records_of f name)) c.styles.ensures
    (subst (λ (rs : List Record). counted c.styles.result.now rs) records c.count_held.ensures)
    (records_printable f name f.styles (records_of f name) refl refl c.is_good.ensures) printable

pub returns-in-None : goal.returns-in-None
returns-in-None g c = λ printable.
    let f = c.args.state.now in
    sym (ap (λ (rs : List Record). count_by (is_held_so f.styles rs) c.args.new.now)
    (no_records f.branches c.args.name.now c.in-None.ensures.found) ∙ none_held f.styles c.args.new.now)
