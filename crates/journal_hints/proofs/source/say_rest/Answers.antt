use Rattle.std.proofs.Common.{rules, ◌<◌, ◌-◌, ◌+◌, ◌++◌, ap, sym, ◌∙◌, subst, ℕ, ℤ, List, length, append_assoc}
use Rattle.std.specs.Int.{w128}
use Rattle.std.proofs.lemmas.Int.{to_z-of_z}
use Rattle.std.specs.List.{flat_map}
use Rattle.money_core.specs.declared.unit.Unit.{Unit as Commodity}
use Rattle.journal_balance.specs.Legs.{commodities, sum_of}
use Rattle.journal_balance.proofs.SumLemmas.{commodities_next}
use Rattle.treasury_messages.specs.Said.{Said}
use Rattle.journal_hints.specs.LeftOver.{left_said}
use Rattle.journal_hints.proofs.source.say_rest.Goals as goal

pub loop-number-preserved : goal.loop-number-preserved
loop-number-preserved c =
    let n = c.loop-number.number in
    let m = length c.args.styles.now in
    let old = c.loop-number.out.items in
    let f : Commodity → List Said = λ (unit : Commodity).
    left_said c.args.styles.now unit (sum_of c.args.styles.now unit c.args.postings.now) in
    let rest = flat_map f (commodities (n + 1) (m - (n + 1))) in
    let within : n < m = subst (λ (k : ℕ). n < k) c.len-number-end.ensures.count c.loop-number-test.true in
    let sums = to_z-of_z w128 c.sum_of-sum.result (search rules) ∙ c.sum_of-sum.ensures in
    ap (λ (xs : List Said). xs ++ rest)
    (c.in_ok-say_left.ensures ∙ ap
    (λ (z : ℤ). old ++ left_said c.args.styles.now (record { 0 = n }) z) sums)
    ∙ append_assoc old (f (record { 0 = n })) rest
    ∙ ap (λ (xs : List Said). old ++ xs) (sym (ap (flat_map f) (commodities_next n m within)))
    ∙ c.loop-number.invariant
