use Rattle.std.proofs.Common.{rules, ◌≡◌, ◌<◌, Bool, ap, sym, ◌∙◌, subst, ℕ, ℤ, pos, length}
use Rattle.std.specs.Int.{w128}
use Rattle.std.proofs.lemmas.Int.{to_z-of_z}
use Rattle.std.specs.Ordering.{int_eq}
use Rattle.money_core.specs.declared.unit.Unit.{Unit as Commodity}
use Rattle.journal_balance.specs.Legs.{sum_of}
use Rattle.journal_balance.proofs.RestLemmas.{even_next, even_fails}
use Rattle.journal_balance.proofs.missing_amount.is_even.Goals as goal

pub loop-number-preserved : goal.loop-number-preserved
loop-number-preserved c =
    let test : Commodity → Bool = λ (unit : Commodity).
    int_eq (sum_of c.args.styles.now unit c.args.postings.now) (pos 0) in
    let within : c.loop-number.number < length c.args.styles.now =
    subst (λ (n : ℕ). c.loop-number.number < n) c.len-number-end.ensures.count c.loop-number-test.true in
    let zero = ap (λ (z : ℤ). int_eq z (pos 0))
    (sym c.sum_of-sum.ensures ∙ sym (to_z-of_z w128 c.sum_of-sum.result (search rules))) ∙ sym c.is_zero.ensures ∙
    c.if-not-is_zero.false in
    sym (even_next test c.loop-number.number (length c.args.styles.now) within zero) ∙ c.loop-number.invariant

pub returns-then-not-is_zero : goal.returns-then-not-is_zero
returns-then-not-is_zero c =
    let test : Commodity → Bool = λ (unit : Commodity).
    int_eq (sum_of c.args.styles.now unit c.args.postings.now) (pos 0) in
    let within : c.loop-number.number < length c.args.styles.now =
    subst (λ (n : ℕ). c.loop-number.number < n) c.len-number-end.ensures.count c.loop-number-test.true in
    let rest = ap (λ (z : ℤ). int_eq z (pos 0))
    (sym c.sum_of-sum.ensures ∙ sym (to_z-of_z w128 c.sum_of-sum.result (search rules))) ∙ sym c.is_zero.ensures ∙
    c.if-not-is_zero.true in
    sym (even_fails test c.loop-number.number (length c.args.styles.now) within rest) ∙ c.loop-number.invariant
