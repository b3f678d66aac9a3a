use Rattle.std.proofs.Common.{◌≡◌, ◌∙◌, pos, true, false, arith, rules, sym, w64}
use Rattle.std.proofs.lemmas.Int.{to_z-of_z}
use Rattle.treasury_state.specs.declared.rows.EntryRow.{EntryRow}
use Rattle.treasury_rows.proofs.BranchRowLemmas.{all_more, counted_own, stops_here, stops_behind}
use Rattle.treasury_rows.proofs.drafting.branch_rows.count_own.Goals as goal

pub returns-then-not-is_number-clause-value : goal.returns-then-not-is_number-clause-value
returns-then-not-is_number-clause-value c = λ own rest o r e.
    let P : EntryRow → Type 0 = λ (x : EntryRow). x.branch ≡ pos c.args.branch in
    c.entry.invariant.count
    ∙ counted_own P c.args.rows.now own rest c.entry.row-index c.entry.invariant.own (omega (arith, c.entry-test.true))
    (stops_here P c.args.rows.now c.entry.row-index c.row-item.result c.entry-test.true c.row-item.is
    (λ p. let k : true ≡ false = sym (c.is_number.ensures.1 (to_z-of_z w64 c.row-item.result.branch (search rules) ∙ p))
    ∙ c.if-not-is_number.true in cc)) o r e

pub entry-preserved : goal.entry-preserved
entry-preserved c =
    let P : EntryRow → Type 0 = λ (x : EntryRow). x.branch ≡ pos c.args.branch in
    record {
      count = omega (arith, c.entry.invariant.count);
      own = all_more P c.args.rows.now c.entry.row-index c.row-item.result c.entry-test.true c.row-item.is
          c.entry.invariant.own
          (sym (to_z-of_z w64 c.row-item.result.branch (search rules)) ∙ c.is_number.ensures.0
          c.if-not-is_number.false);
    }

pub returns-clause-value : goal.returns-clause-value
returns-clause-value c = λ own rest o r e.
    let P : EntryRow → Type 0 = λ (x : EntryRow). x.branch ≡ pos c.args.branch in
    c.entry.invariant.count ∙ counted_own P c.args.rows.now own rest c.entry.row-index c.entry.invariant.own
    (omega (arith, c.entry.auto.row-index-end))
    (stops_behind P c.args.rows.now c.entry.row-index c.entry-test.false) o r e
