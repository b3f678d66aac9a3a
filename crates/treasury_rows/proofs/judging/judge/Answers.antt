use Rattle.std.proofs.Common.{◌≡◌, ◌≤◌, ◌∙◌, ap, sym, subst, arith, length, true, false, List}
use Rattle.std.specs.Prelude.{unsigned_abs}
use Rattle.std.specs.List.{AllByRecursion}
use Rattle.money_core.specs.Amount.{limit}
use Rattle.money_core.specs.Style.{AreStyles}
use Rattle.money_core.specs.declared.style.Style.{Style}
use Rattle.treasury_state.specs.declared.transfer.Transfer.{Transfer}
use Rattle.treasury_state.specs.Federation.{Branch, Federation, most_branches}
use Rattle.treasury_state.specs.Good.{AreAscending, HaveOwnNames, IsGoodRecord, IsGoodTransfer, IsGoodState}
use Rattle.treasury_rows.specs.Judged.{AreJudged}
use Rattle.treasury_rows.proofs.JudgingLemmas.{AreWholeIn, all_small, good_of, whole_of, whole_same}
use Rattle.treasury_rows.proofs.JudgedLemmas.{judged_weaker}
use Rattle.treasury_rows.proofs.judging.judge.Goals as goal

pub returns-then-not-are_small-clause-value : goal.returns-then-not-are_small-clause-value
returns-then-not-are_small-clause-value g c =
    let f = c.args.draft.now in
    let transfers : c.items-transfers.result.now ≡ f.transfers =
    c.items-transfers.ensures ∙ ap (λ (d : Federation). d.transfers) c.draft.view_is in
    λ good.
    let small =
    subst (AllByRecursion (λ (t : Transfer). unsigned_abs t.qty ≤ limit)) (sym transfers) (all_small f good) in
    let k : true ≡ false = sym (c.are_small.ensures.1 small) ∙ c.if-not-are_small.true in
    absurd cc

pub judged_branches-requires-clause-records : goal.judged_branches-requires-clause-records
judged_branches-requires-clause-records g c =
    let f = c.args.draft.now in
    let branches : c.items-branches.result.now ≡ f.branches =
    c.items-branches.ensures ∙ ap (λ (d : Federation). d.branches) c.draft.view_is in
    subst (λ (ss : List Style). AllByRecursion (λ (b : Branch). AllByRecursion (IsGoodRecord ss) b.records)
    c.items-branches.result.now) (sym (ap (λ (d : Federation). d.styles) c.draft.view_is))
    (subst (AllByRecursion (λ (b : Branch). AllByRecursion (IsGoodRecord f.styles) b.records)) (sym branches)
    c.requires.records)

pub returns-clause-value : goal.returns-clause-value
returns-clause-value g c =
    let f = c.args.draft.now in
    let branches : c.items-branches.result.now ≡ f.branches =
    c.items-branches.ensures ∙ ap (λ (d : Federation). d.branches) c.draft.view_is in
    let transfers : c.items-transfers.result.now ≡ f.transfers =
    c.items-transfers.ensures ∙ ap (λ (d : Federation). d.transfers) c.draft.view_is in
    let styles : c.draft.inside.styles ≡ f.styles = ap (λ (d : Federation). d.styles) c.draft.view_is in
    let few : length f.branches ≤ most_branches = omega (arith, ap length branches) in
    let names : HaveOwnNames f.branches =
    subst HaveOwnNames branches (c.have_own_names.ensures.0 c.if-not-have_own_names.false) in
    let ids : AreAscending f.transfers =
    subst AreAscending transfers (c.are_ascending.ensures.0 c.if-not-are_ascending.false) in
    let good : AllByRecursion (IsGoodTransfer f.branches) f.transfers =
    subst (λ (bs : List Branch). AllByRecursion (IsGoodTransfer bs) f.transfers) branches
    (subst (AllByRecursion (IsGoodTransfer c.items-branches.result.now)) transfers
    (c.are_good_transfers.ensures.0 c.if-not-are_good_transfers.false)) in
    let rows = c.items-branches.result.now in
    let moved = c.items-transfers.result.now in
    judged_weaker c.judged_branches.result (AreWholeIn c.draft.inside.styles moved rows) (IsGoodState f)
    (λ list. AreWholeIn c.draft.inside.styles moved rows × AreJudged g.L.Ledger.book rows list.items)
    (λ list. IsGoodState f × AreJudged g.L.Ledger.book f.branches list.items)
    (λ k. whole_same _ _ _ _ _ _ styles transfers branches (whole_of f k))
    (λ list h. (
      good_of f (subst AreStyles styles c.are_styles.ensures) few names ids good
          (whole_same _ _ _ _ _ _ (sym styles) (sym transfers) (sym branches) h.0),
      subst (λ (bs : List Branch). AreJudged g.L.Ledger.book bs list.items) branches h.1,
    ))
    c.judged_branches.ensures.value
