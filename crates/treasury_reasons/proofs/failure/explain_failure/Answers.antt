use Rattle.std.proofs.Common.{◌≡◌, ◌∙◌, ap, sym, subst, List, ℕ, true, false}
use Rattle.std.proofs.lemmas.Result.{IfOk-weaker}
use Rattle.money_core.specs.declared.cause.Cause.TheVariants.{ClaimFailed}
use Rattle.money_core.specs.declared.style.Style.{Style}
use Rattle.journal_format.specs.Pieces.{Reads}
use Rattle.treasury_state.specs.declared.record.Record.{Record}
use Rattle.treasury_state.specs.Federation.{has_branch, records_of}
use Rattle.treasury_state.specs.Good.{IsGoodBranch}
use Rattle.treasury_state.specs.Seen.{branch_of}
use Rattle.treasury_state.proofs.FindLemmas.{branch_at_Some, branch_at_None}
use Rattle.treasury_state.proofs.HoldsLemmas.{found_holds}
use Rattle.treasury_core.specs.Step.{new_in}
use Rattle.treasury_reasons.specs.Failure.{text_asked}
use Rattle.treasury_reasons.specs.Told.{BeginsWithSentence}
use Rattle.treasury_reasons.proofs.FailureLemmas.{failure_told, failure_begins}
use Rattle.treasury_reasons.proofs.failure.explain_failure.Goals as goal

pub brought_by-requires-clause-good : goal.brought_by-requires-clause-good
brought_by-requires-clause-good g c =
    let f = c.args.state.now in
    let b = branch_of c.in-Some.branch.now in
    subst (λ (ss : List Style). IsGoodBranch ss b) (sym c.styles-styles.ensures)
    (found_holds (IsGoodBranch f.styles) f.branches c.judged_branch.result.now b c.in-Some.ensures.found
    c.is_good.ensures.branches)

pub returns-in_default-clause-told : goal.returns-in_default-clause-told
returns-in_default-clause-told g c = λ list there reads.
    let f = c.args.state.now in
    let none = (branch_at_None f.branches c.judged_branch.result.now c.in_default.ensures.found).none in
    absurd (let wrong : true ≡ false = sym there ∙ ap (has_branch f) (sym c.judged_branch.ensures) ∙ none in cc)

pub returns-clause-sentence : goal.returns-clause-sentence
returns-clause-sentence g c =
    IfOk-weaker c.explain_on.result _ _
    (λ said e. subst (BeginsWithSentence ClaimFailed) (sym e) (failure_begins _ _ _ _ _ _ _)) c.explain_on.ensures

pub returns-clause-told : goal.returns-clause-told
returns-clause-told g c = λ list there reads.
    let f = c.args.state.now in
    let styles = c.styles-styles.result.now in
    let text = c.text_of-text.result.now in
    let records = c.items-records.result.now in
    let brought = c.in_ok-brought.brought in
    let read = brought.read in
    let known = subst (λ (bs : List ℕ). Reads styles bs list) (sym c.text_of-text.ensures)
    (subst (λ (ss : List Style). Reads ss (text_asked c.args.request.now) list) (sym c.styles-styles.ensures) reads) in
    let at = branch_at_Some f.branches c.judged_branch.result.now _ c.in-Some.ensures.found in
    IfOk-weaker c.explain_on.result _ _
    (λ said e. failure_told f c.args.request.now c.args.source.now c.args.failure.now said.items styles records
    read.rows brought.new read.file.items list text c.styles-styles.ensures
    (c.items-records.ensures ∙ sym at.records ∙ ap (records_of f) c.judged_branch.ensures) c.text_of-text.ensures
    (c.in_ok-brought.ensures.only list known) c.in_ok-brought.ensures.read.rows
    (c.in_ok-brought.ensures.new ∙ ap (λ (rs : List Record). new_in rs read.rows) (sym c.items-records.ensures)) e)
    c.explain_on.ensures
