use Rattle.std.proofs.Common.{◌∙◌, ◌≤◌, List, ℤ, ◌+ℤ◌, length, take, ap, sym, subst}
use Rattle.std.proofs.Common.{rules, w64}
use Rattle.std.specs.Prelude.{unsigned_abs}
use Rattle.std.proofs.lemmas.Int.{to_z-of_z}
use Rattle.std.proofs.lemmas.List.{length-set}
use Rattle.money_core.specs.Amount.{limit}
use Rattle.treasury_reports.specs.Lent.{IsListable, AreSumsOfListed, sum_at}
use Rattle.treasury_reports.proofs.RegisterLemmas.{sum_next, sum_within, within_abs, sums_next, rows_next}
use Rattle.treasury_reports.proofs.RegisterLemmas.{take_with_next}
use Rattle.treasury_reports.proofs.RegisterLemmas.{listed_at}
use Rattle.treasury_reports.proofs.register.rows_of.Goals as goal

pub add_to-sum-requires-clause-small : goal.add_to-sum-requires-clause-small
add_to-sum-requires-clause-small c =
    let x = c.one-item.result in
    let all = c.args.all.now in
    let i = c.lines.one-index in
    let one = listed_at (IsListable c.args.styles.now) all i x c.lines-test.true c.one-item.is c.requires.listable in
    let back = to_z-of_z w64 x.leg.qty (search rules) in
    let is = ap (λ (q : ℤ). sum_at c.lines.sums.items x.leg.unit +ℤ q) back ∙ sum_next (take i all) x
    (sum_at c.lines.sums.items x.leg.unit) (c.lines.invariant.sums x.leg.unit one.amount.known) in
    subst (λ (z : ℤ). unsigned_abs z ≤ limit) (sym is)
    (within_abs _ (sum_within all i x c.requires.room c.lines-test.true c.one-item.is))

pub push_since-requires-clause-sum : goal.push_since-requires-clause-sum
push_since-requires-clause-sum c =
    let x = c.one-item.result in
    let all = c.args.all.now in
    let i = c.lines.one-index in
    let one = listed_at (IsListable c.args.styles.now) all i x c.lines-test.true c.one-item.is c.requires.listable in
    let back = to_z-of_z w64 x.leg.qty (search rules) in
    let is = ap (λ (q : ℤ). sum_at c.lines.sums.items x.leg.unit +ℤ q) back ∙ sum_next (take i all) x
    (sum_at c.lines.sums.items x.leg.unit) (c.lines.invariant.sums x.leg.unit one.amount.known) in
    let sum = to_z-of_z w64 c.add_to-sum.result (search rules) ∙ c.add_to-sum.ensures.sum ∙ is in
    record {
      known = one.amount.known;
      size = subst (λ (z : ℤ). unsigned_abs z ≤ limit) (sym sum)
          (within_abs _ (sum_within all i x c.requires.room c.lines-test.true c.one-item.is));
    }

pub lines-preserved : goal.lines-preserved
lines-preserved c =
    let x = c.one-item.result in
    let all = c.args.all.now in
    let i = c.lines.one-index in
    let styles = c.args.styles.now in
    let one = listed_at (IsListable styles) all i x c.lines-test.true c.one-item.is c.requires.listable in
    let back = to_z-of_z w64 x.leg.qty (search rules) in
    let is = ap (λ (q : ℤ). sum_at c.lines.sums.items x.leg.unit +ℤ q) back ∙ sum_next (take i all) x
    (sum_at c.lines.sums.items x.leg.unit) (c.lines.invariant.sums x.leg.unit one.amount.known) in
    let sum = to_z-of_z w64 c.add_to-sum.result (search rules) ∙ c.add_to-sum.ensures.sum ∙ is in
    record {
      wide = ap (λ (l : List ℤ). length l) c.add_to-sum.ensures.sums ∙ length-set c.lines.sums.items x.leg.unit.0 _ ∙
          c.lines.invariant.wide;
      sums = subst (AreSumsOfListed styles c.add_to-sum.new.sums.items)
          (sym (take_with_next all i x c.lines-test.true c.one-item.is))
          (sums_next styles c.lines.sums.items c.add_to-sum.new.sums.items (take i all) x _ c.add_to-sum.ensures.sums
          c.lines.invariant.wide one.amount.known is c.lines.invariant.sums);
      rows = rows_next c.args.layout styles c.args.from all i x _ c.lines.rows.items c.push_since.new.rows.items
          c.lines-test.true c.one-item.is sum c.in_ok-push_since.ensures.ok c.lines.invariant.rows;
    }
