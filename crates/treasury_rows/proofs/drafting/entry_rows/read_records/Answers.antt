use Rattle.std.proofs.Common.{◌+◌, ◌∙◌, ℕ, List, [], ◌∷◌, length, ap, sym, subst, rules, arith}
use Rattle.std.specs.List.{AllByRecursion}
use Rattle.std.proofs.lemmas.List.{take_all}
use Rattle.money_core.proofs.ListLemmas.{all-append}
use Rattle.treasury_state.specs.declared.record.Record.{Record}
use Rattle.treasury_state.specs.Good.{IsGoodRecord}
use Rattle.treasury_state.specs.Rows.{entry_row, entry_rows_from}
use Rattle.treasury_rows.proofs.DraftLemmas.{exit_on_error, IsFront, front_start, front_next, front_fault, front_end}
use Rattle.treasury_rows.proofs.DraftLemmas.{all_middle}
use Rattle.treasury_rows.proofs.DraftLemmas.{pushed_length, same_next}
use Rattle.treasury_rows.proofs.drafting.entry_rows.read_records.Goals as goal

pub entry-init : goal.entry-init
entry-init c = record {
  count = search rules;
  good = search rules;
  front = subst (λ (rs : List Record).
      IsFront (entry_row c.args.styles.now c.args.branch) (AllByRecursion (IsGoodRecord c.args.styles.now)) 1
      c.args.rows.now 1 0 rs) (sym c.empty-list.ensures)
      (front_start (entry_row c.args.styles.now c.args.branch) (AllByRecursion (IsGoodRecord c.args.styles.now)) 1
      c.args.rows.now);
  same = ap (entry_rows_from c.args.styles.now c.args.branch 1) c.empty-list.ensures;
}

pub returns-in_err-record-clause-reads : goal.returns-in_err-record-clause-reads
returns-in_err-record-clause-reads c =
    let P = IsGoodRecord c.args.styles.now in
    let i = c.entry.row-index in
    exit_on_error _ _ c.from_residual.result _ c.from_residual.ensures.1
    (front_fault (entry_row c.args.styles.now c.args.branch) (AllByRecursion P) P 1 c.args.rows.now (i + 1) i _
    c.entry.list c.row-item.result _ c.entry-test.true c.row-item.is
    (ap (λ (xs : List Record). length xs + 1) c.items.ensures ∙ ap (λ (k : ℕ). k + 1) c.entry.invariant.count)
    (λ xs rest y. all_middle P c.entry.list xs rest y) c.entry.invariant.front c.in_err-record.ensures.reads)

pub entry-preserved : goal.entry-preserved
entry-preserved c =
    let P = IsGoodRecord c.args.styles.now in
    let i = c.entry.row-index in
    record {
      count = pushed_length c.entry.list _ c.in_ok-record.record i c.in_ok-push.ensures.ok c.entry.invariant.count;
      good = subst (AllByRecursion P) (sym c.in_ok-push.ensures.ok)
          (all-append P c.entry.list (c.in_ok-record.record ∷ []) c.entry.invariant.good
          (c.in_ok-record.ensures.good, tt));
      front = front_next (entry_row c.args.styles.now c.args.branch) (AllByRecursion P) P 1 c.args.rows.now (i + 1) i _
          c.entry.list _ c.row-item.result c.in_ok-record.record c.entry-test.true c.row-item.is
          (ap (λ (xs : List Record). length xs + 1) c.items.ensures ∙ ap (λ (k : ℕ). k + 1) c.entry.invariant.count)
          c.in_ok-push.ensures.ok (λ xs rest y. all_middle P c.entry.list xs rest y) c.in_ok-record.ensures.reads
          c.entry.invariant.front;
      same = same_next (entry_row c.args.styles.now c.args.branch) 1 i _ c.args.rows.now c.entry.list _
          c.row-item.result c.in_ok-record.record c.entry-test.true c.row-item.is c.entry.invariant.count
          (let at = ap (λ (xs : List Record). length xs + 1) c.items.ensures
          ∙ ap (λ (k : ℕ). k + 1) c.entry.invariant.count in omega (arith, at))
          c.in_ok-push.ensures.ok c.in_ok-record.ensures.same c.entry.invariant.same;
    }

pub returns-clause-reads : goal.returns-clause-reads
returns-clause-reads c =
    front_end (entry_row c.args.styles.now c.args.branch) (AllByRecursion (IsGoodRecord c.args.styles.now)) 1
    c.args.rows.now (c.entry.row-index + 1) c.entry.row-index c.entry.list c.entry-test.false
    c.entry.invariant.front

pub returns-clause-same : goal.returns-clause-same
returns-clause-same c = c.entry.invariant.same ∙ take_all c.entry.row-index c.args.rows.now c.entry-test.false
