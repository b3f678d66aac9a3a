use Rattle.std.proofs.Common.{◌≡◌, ◌<◌, ◌+◌, ap, sym, subst, arith, ℕ, List, ◌∷◌, length, take, drop}
use Rattle.std.specs.List.{AllByRecursion}
use Rattle.std.proofs.lemmas.Option.{MatchOption-at_some}
use Rattle.money_core.proofs.ListLemmas.{drop_at}
use Rattle.treasury_state.specs.Federation.{Branch}
use Rattle.treasury_state.specs.Good.{IsGoodBranch, IsGoodRecord, IsCarried}
use Rattle.treasury_rows.specs.Judged.{IsJudged, AreJudged}
use Rattle.treasury_rows.proofs.JudgedLemmas.{judged_more}
use Rattle.treasury_rows.proofs.judging.judged_branches.Goals as goal

pub loop-branch-preserved : goal.loop-branch-preserved
loop-branch-preserved g c =
    let bs = c.args.branches.now in
    let styles = c.args.styles.now in
    let moved = c.args.transfers.now in
    let i = c.loop-branch.branch-index in
    let b = c.branch-item.result in
    let j = c.in-Some.judged in
    let within : i < length bs = omega (arith, c.loop-branch-test.true) in
    let split : drop i bs ≡ b ∷ drop (i + 1) bs = drop_at bs i b within c.branch-item.is in
    let told : IsGoodBranch styles b × IsCarried moved b × IsJudged g.L.Ledger.book b j =
    MatchOption-at_some _ _ j c.in-Some.is c.in_ok-judged.ensures.value in
    record {
      good = (
        (λ h. c.loop-branch.invariant.good.0
            (subst (AllByRecursion (λ (x : Branch). IsGoodBranch styles x × IsCarried moved x)) (sym split)
            ((told.0, told.1), h))),
        (λ h. (subst (AllByRecursion (λ (x : Branch). IsGoodBranch styles x × IsCarried moved x)) split
            (c.loop-branch.invariant.good.1 h)).1),
      );
      records = (subst (AllByRecursion (λ (x : Branch). AllByRecursion (IsGoodRecord styles) x.records)) split
          c.loop-branch.invariant.records).1;
      judged = subst (AreJudged g.L.Ledger.book (take (i + 1) bs)) (sym c.in_ok-push.ensures.items)
          (judged_more g.L.Ledger.book bs c.loop-branch.list.items i b j within c.branch-item.is
          c.loop-branch.invariant.judged told.2);
    }
