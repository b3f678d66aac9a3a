use Rattle.std.proofs.Common.{◌≡◌, ◌∙◌, ap, sym, subst, List, ℕ, Option, Some}
use Rattle.std.specs.Prelude.{IfOk}
use Rattle.journal_format.specs.Printable.{IsPrintable}
use Rattle.treasury_state.specs.declared.record.Record.{Record}
use Rattle.treasury_state.specs.Mark.{has_mark, held}
use Rattle.import_notes.specs.OtherBranch.{has_text_of_held}
use Rattle.import_notes.proofs.OtherBranchLemmas.{all_find}
use Rattle.import_notes.proofs.other_branch.is_held_so.Goals as goal

pub returns-in-Some : goal.returns-in-Some
returns-in-Some c = λ all printable.
    let styles = c.args.styles.now in
    let records = c.args.records.now in
    let r = c.args.record.now in
    let found : Some c.in-Some.other.now ≡ held records r.mark =
    c.in-Some.ensures ∙ ap (λ (m : List ℕ). held records m) c.as_str.ensures in
    subst (λ (o : Option Record). IfOk c.has_text_of.result (λ is. is ≡ has_text_of_held styles r o)) found
    (c.has_text_of.ensures printable
    (all_find (λ (x : Record). IsPrintable styles x.txn) (has_mark r.mark) records c.in-Some.other.now all (sym found)))
