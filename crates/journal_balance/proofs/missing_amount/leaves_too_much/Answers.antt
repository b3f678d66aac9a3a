use Rattle.std.proofs.Common.{rules, ◌≡◌, ◌<◌, ◌-◌, ◌+◌, ◌||◌, Bool, ap, sym, ◌∙◌, subst, ℕ, ℤ, List, length}
use Rattle.std.specs.Int.{w128}
use Rattle.std.proofs.lemmas.Int.{to_z-of_z}
use Rattle.std.specs.Prelude.{nat_lt, unsigned_abs}
use Rattle.std.specs.List.{list_any, flat_map}
use Rattle.money_core.specs.declared.unit.Unit.{Unit as Commodity}
use Rattle.money_core.specs.Amount.{limit}
use Rattle.book_core.specs.declared.leg.Leg.{Leg}
use Rattle.journal_balance.specs.Legs.{commodities, sum_of, rest_leg, is_large}
use Rattle.journal_balance.proofs.RestLemmas.{large_next, rest_large}
use Rattle.journal_balance.proofs.missing_amount.leaves_too_much.Goals as goal

pub loop-number-preserved : goal.loop-number-preserved
loop-number-preserved c =
    let n = c.loop-number.number in
    let m = length c.args.styles.now in
    let f : Commodity → List Leg = λ (unit : Commodity).
    rest_leg c.args.account.now unit (sum_of c.args.styles.now unit c.args.postings.now) in
    let within : n < m = subst (λ (k : ℕ). n < k) c.len-number-end.ensures.count c.loop-number-test.true in
    let small =
    rest_large c.args.account.now (record { 0 = n }) (sum_of c.args.styles.now (record { 0 = n }) c.args.postings.now)
    ∙ ap (λ (z : ℤ). nat_lt limit (unsigned_abs z))
    (sym c.sum_of-sum.ensures ∙ sym (to_z-of_z w128 c.sum_of-sum.result (search rules))) ∙ sym c.is_over.ensures ∙
    c.if-is_over.false in
    sym (large_next f n m within ∙ ap
    (λ (b : Bool). b || list_any is_large (flat_map f (commodities (n + 1) (m - (n + 1))))) small) ∙
    c.loop-number.invariant

pub returns-then-is_over : goal.returns-then-is_over
returns-then-is_over c =
    let n = c.loop-number.number in
    let m = length c.args.styles.now in
    let f : Commodity → List Leg = λ (unit : Commodity).
    rest_leg c.args.account.now unit (sum_of c.args.styles.now unit c.args.postings.now) in
    let within : n < m = subst (λ (k : ℕ). n < k) c.len-number-end.ensures.count c.loop-number-test.true in
    let large =
    rest_large c.args.account.now (record { 0 = n }) (sum_of c.args.styles.now (record { 0 = n }) c.args.postings.now)
    ∙ ap (λ (z : ℤ). nat_lt limit (unsigned_abs z))
    (sym c.sum_of-sum.ensures ∙ sym (to_z-of_z w128 c.sum_of-sum.result (search rules))) ∙ sym c.is_over.ensures ∙
    c.if-is_over.true in
    sym (large_next f n m within ∙ ap
    (λ (b : Bool). b || list_any is_large (flat_map f (commodities (n + 1) (m - (n + 1))))) large) ∙
    c.loop-number.invariant
