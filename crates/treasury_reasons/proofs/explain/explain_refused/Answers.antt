use Rattle.std.proofs.Common.{◌≡◌, ◌∙◌, sym, subst, List, true, false}
use Rattle.std.proofs.lemmas.Result.{IfOk-weaker}
use Rattle.money_core.specs.declared.style.Style.{Style}
use Rattle.journal_format.specs.Pieces.{Reads}
use Rattle.treasury_state.specs.Good.{IsGoodBranch}
use Rattle.treasury_state.specs.Seen.{branch_of}
use Rattle.treasury_state.proofs.FindLemmas.{branch_at_None}
use Rattle.treasury_state.proofs.HoldsLemmas.{found_holds}
use Rattle.treasury_reasons.specs.Told.{BeginsWithSentence}
use Rattle.treasury_reasons.proofs.RefusedLemmas.{refused_there, refused_told, stopped_begins}
use Rattle.treasury_reasons.proofs.explain.explain_refused.Goals as goal

pub find_stop-requires-clause-good : goal.find_stop-requires-clause-good
find_stop-requires-clause-good g c =
    let f = c.args.state.now in
    let b = branch_of c.in-Some.branch.now in
    subst (λ (ss : List Style). IsGoodBranch ss b) (sym c.styles.ensures)
    (found_holds (IsGoodBranch f.styles) f.branches c.args.name.now b c.in-Some.ensures.found
    c.is_good.ensures.branches)

pub returns-in_default-clause-told : goal.returns-in_default-clause-told
returns-in_default-clause-told g c = λ list is.
    let f = c.args.state.now in
    let none = (branch_at_None f.branches c.args.name.now c.in_default.ensures.found).none in
    absurd (let wrong : true ≡ false = sym is.there ∙ none in cc)

pub returns-in-Ok-Some-clause-sentence : goal.returns-in-Ok-Some-clause-sentence
returns-in-Ok-Some-clause-sentence g c =
    let read = c.in-Ok-Some.stopped.read in
    IfOk-weaker c.explain_stop.result _ _
    (λ said e. subst (BeginsWithSentence c.args.cause) (sym e)
    (stopped_begins c.args.state.now c.args.request.now c.args.source.now c.args.journal.now
    (branch_of c.in-Some.branch.now).records read.file.items read.rows c.args.cause c.in-Ok-Some.stopped.place))
    c.explain_stop.ensures

pub returns-in-Ok-Some-clause-told : goal.returns-in-Ok-Some-clause-told
returns-in-Ok-Some-clause-told g c = λ list is.
    let f = c.args.state.now in
    let name = c.args.name.now in
    let styles = c.styles.result.now in
    let b = branch_of c.in-Some.branch.now in
    let all = rw c.in-Ok-Some.field-0-is at c.in-Ok-Some.ensures.found in
    let stops = all list c.args.cause
    (subst (λ (ss : List Style). Reads ss c.args.journal.now list) (sym c.styles.ensures) is.reads)
    (refused_there f name b styles list c.args.cause c.in-Some.ensures.found c.styles.ensures is.refused) in
    IfOk-weaker c.explain_stop.result _ _
    (λ said e. refused_told f c.args.request.now name c.args.source.now c.args.journal.now list _ c.args.cause
    said.items b styles _ c.in-Ok-Some.stopped.place c.in-Some.ensures.found c.styles.ensures stops.0 stops.1 stops.2 e)
    c.explain_stop.ensures

pub returns-in-Ok-None-clause-told : goal.returns-in-Ok-None-clause-told
returns-in-Ok-None-clause-told g c = λ list is.
    let f = c.args.state.now in
    let name = c.args.name.now in
    let styles = c.styles.result.now in
    let b = branch_of c.in-Some.branch.now in
    let all = rw c.in-Ok-None.field-0-is at c.in-Ok-None.ensures.found in
    absurd (all list c.args.cause
    (subst (λ (ss : List Style). Reads ss c.args.journal.now list) (sym c.styles.ensures) is.reads)
    (refused_there f name b styles list c.args.cause c.in-Some.ensures.found c.styles.ensures is.refused))
