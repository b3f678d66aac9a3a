use Rattle.std.proofs.Common.{◌≡◌, ◌+◌, ◌∙◌, ◌∷◌, ◌++◌, [], true, false, length, ap, sym, subst, List, rules}
use Rattle.std.specs.Prelude.{◌==◌}
use Rattle.std.specs.List.{AllByRecursion}
use Rattle.money_core.proofs.ListLemmas.{all-append}
use Rattle.treasury_state.specs.declared.rows.EntryRow.{EntryRow}
use Rattle.treasury_state.specs.Federation.{Branch}
use Rattle.treasury_state.specs.Good.{IsGoodRecord}
use Rattle.treasury_state.specs.Rows.{entry_rows_in}
use Rattle.treasury_state.proofs.BranchRowLemmas.{AreGood}
use Rattle.treasury_rows.specs.Drafted.{IsFault}
use Rattle.treasury_rows.proofs.DraftLemmas.{exit_on_error, pushed_length}
use Rattle.treasury_rows.proofs.BranchRowLemmas.{HasRow, IsBranchFront, branch_start, branch_next, branch_fault}
use Rattle.treasury_rows.proofs.BranchRowLemmas.{branch_end, rest_damaged, entered_next, entered_end}
use Rattle.treasury_rows.proofs.drafting.branch_rows.read_branches.Goals as goal

pub branch-init : goal.branch-init
branch-init c = record {
  count = search rules;
  good = search rules;
  front = subst (λ (bs : List Branch).
      IsBranchFront c.args.styles.now c.args.rows.now c.args.entries.now 0 0 bs c.args.entries.now)
      (sym c.empty-list.ensures) (branch_start c.args.styles.now c.args.rows.now c.args.entries.now);
  same = ap (λ (bs : List Branch). entry_rows_in c.args.styles.now 0 bs ++ c.args.entries.now) c.empty-list.ensures;
}

pub returns-in_err-branch-clause-reads : goal.returns-in_err-branch-clause-reads
returns-in_err-branch-clause-reads c =
    let i = c.branch.row-index in
    exit_on_error _ _ c.from_residual.result _ c.from_residual.ensures.1
    (branch_fault c.args.styles.now c.args.rows.now c.args.entries.now i i (length c.items-nr.result.now)
    c.count_own-count.result c.branch.list c.row-item.result c.branch.left.now c.in_err-branch.field-0.0
    c.branch-test.true c.row-item.is
    (ap (λ (bs : List Branch). length bs) c.items-nr.ensures ∙ c.branch.invariant.count)
    c.count_own-count.ensures.value c.branch.invariant.front
    (subst (λ (own : List EntryRow).
    IsFault (HasRow c.args.styles.now (length c.items-nr.result.now) c.row-item.result own)
    c.in_err-branch.field-0.0) c.rows_before.ensures c.in_err-branch.ensures.reads))

pub branch-preserved : goal.branch-preserved
branch-preserved c =
    let i = c.branch.row-index in
    record {
      count = pushed_length c.branch.list _ c.in_ok-branch.branch i c.in_ok-push.ensures.ok c.branch.invariant.count;
      good = subst (AreGood c.args.styles.now) (sym c.in_ok-push.ensures.ok)
          (all-append (λ (b : Branch). AllByRecursion (IsGoodRecord c.args.styles.now) b.records) c.branch.list
          (c.in_ok-branch.branch ∷ []) c.branch.invariant.good (c.in_ok-branch.ensures.good, tt));
      front = subst (λ (left : List EntryRow).
          IsBranchFront c.args.styles.now c.args.rows.now c.args.entries.now (i + 1) (i + 1) c.push.new.self left)
          (sym c.rows_from-left.ensures)
          (branch_next c.args.styles.now c.args.rows.now c.args.entries.now i i (length c.items-nr.result.now)
          c.count_own-count.result c.branch.list _ c.row-item.result c.branch.left.now c.in_ok-branch.branch
          c.branch-test.true c.row-item.is
          (ap (λ (bs : List Branch). length bs) c.items-nr.ensures ∙ c.branch.invariant.count)
          c.count_own-count.ensures.value c.in_ok-push.ensures.ok
          (subst (λ (own : List EntryRow). (b : Branch)
          → HasRow c.args.styles.now (length c.items-nr.result.now) c.row-item.result own b
          → b ≡ c.in_ok-branch.branch) c.rows_before.ensures c.in_ok-branch.ensures.reads)
          c.branch.invariant.front);
      same = ap (λ (left : List EntryRow). entry_rows_in c.args.styles.now 0 c.push.new.self ++ left)
          c.rows_from-left.ensures
          ∙ entered_next c.args.styles.now i (length c.items-nr.result.now) c.count_own-count.result c.branch.list _
          c.in_ok-branch.branch c.args.entries.now c.branch.left.now c.branch.invariant.count
          (ap (λ (bs : List Branch). length bs) c.items-nr.ensures ∙ c.branch.invariant.count)
          c.in_ok-push.ensures.ok (c.in_ok-branch.ensures.same ∙ c.rows_before.ensures) c.branch.invariant.same;
    }

pub returns-then-not-is_empty-clause-reads : goal.returns-then-not-is_empty-clause-reads
returns-then-not-is_empty-clause-reads c =
    rest_damaged c.args.styles.now c.args.rows.now c.args.entries.now c.branch.row-index c.branch.row-index
    c.branch.list c.branch.left.now c.branch-test.false c.branch.invariant.front
    (λ e. let k : false ≡ true = sym c.if-not-is_empty.true ∙
    (c.is_empty.ensures ∙ ap (λ (xs : List EntryRow). length xs == 0) e) in cc)

pub returns-clause-reads : goal.returns-clause-reads
returns-clause-reads c = λ bs p.
    (branch_end c.args.styles.now c.args.rows.now c.args.entries.now c.branch.row-index c.branch.row-index c.branch.list
    c.branch.left.now c.branch-test.false c.branch.invariant.front bs p).0

pub returns-clause-same : goal.returns-clause-same
returns-clause-same c =
    entered_end (entry_rows_in c.args.styles.now 0 c.branch.list) c.branch.left.now c.args.entries.now
    c.is_empty.result c.is_empty.ensures c.if-not-is_empty.false c.branch.invariant.same
