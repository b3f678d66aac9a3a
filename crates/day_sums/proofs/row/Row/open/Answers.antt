use Rattle.std.proofs.Common.{◌∙◌, sym, subst, ℤ, rules, w64}
use Rattle.std.proofs.lemmas.Int.{to_z-of_z}
use Rattle.day_sums.specs.Row.{one, SameRow}
use Rattle.day_sums.proofs.FirstLemmas.{opened_full, opened_first}
use Rattle.day_sums.proofs.row.Row.open.Goals as goal

pub returns-then-not-is_empty-clause-same : goal.returns-then-not-is_empty-clause-same
returns-then-not-is_empty-clause-same c =
    opened_full c.args.self.now c.self.inside.day c.self.inside.number c.self.inside.qty c.self.inside.days
    c.open.new.self c.self.view_is (sym c.is_empty.ensures ∙ c.if-not-is_empty.true) c.open.ensures.some
    c.open.ensures.same

pub returns-clause-same : goal.returns-clause-same
returns-clause-same c =
    opened_first c.args.self.now c.self.inside.day c.self.inside.number c.self.inside.qty c.self.inside.days
    c.in_ok-days.days c.open-2.new.self c.self.view_is
    (sym c.is_empty.ensures ∙ c.if-not-is_empty.false)
    (subst (λ (q : ℤ). SameRow (one c.self.inside.day c.self.inside.number q) c.in_ok-days.days)
    (to_z-of_z w64 c.self.inside.qty (search rules)) c.in_ok-days.ensures.same) c.in_ok-days.ensures.some
    c.in_ok-open.ensures.some c.in_ok-open.ensures.same
