use Rattle.std.proofs.Common.{◌∙◌, ℕ, List, ap, rules, w64}
use Rattle.std.proofs.lemmas.Int.{to_z-of_z}
use Rattle.day_sums.specs.declared.period.Period.TheVariants.{Within}
use Rattle.day_sums.specs.Sums.{period_sum}
use Rattle.book_core.proofs.own_legs.OwnLegs.sum_up_to.Goals as goal

pub returns : goal.returns
returns c =
    to_z-of_z w64 c.sum.result (search rules)
    ∙ c.sum.ensures
    ∙ ap (λ (a : List ℕ). period_sum c.args.self.now.rows a c.args.unit (Within c.args.self.now.day c.min-last.result))
    c.as_bytes.ensures.value
    ∙ ap (λ (n : ℕ). period_sum c.args.self.now.rows c.args.account.now c.args.unit (Within c.args.self.now.day n))
    c.min-last.ensures
