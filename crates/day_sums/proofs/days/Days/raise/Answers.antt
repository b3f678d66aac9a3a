use Rattle.std.proofs.Common.{◌∙◌, ap, subst, ℤ, pos, rules, w64, to_z, of_z}
use Rattle.std.proofs.lemmas.Int.{to_z-of_z}
use Rattle.day_sums.specs.Points.{has_point}
use Rattle.day_sums.specs.Blocks.{points_at}
use Rattle.day_sums.specs.Row.{Kept, IsRow, RaisedRow, has_number}
use Rattle.day_sums.proofs.RowLemmas.{small_days, small_numbers, small_view, is_open_within, raised_parts}
use Rattle.day_sums.proofs.days.Days.raise.Goals as goal

pub raise-requires-clause-sums : goal.raise-requires-clause-sums
raise-requires-clause-sums c =
    small_days (c.self.inside.days, c.self.inside.numbers.entries) (small_view _ _ c.self.view_is c.requires.sums)

pub raise_in-requires-clause-open : goal.raise_in-requires-clause-open
raise_in-requires-clause-open c =
    let es = c.self.inside.numbers.entries in
    let at = to_z-of_z w64 c.number_of-at.result (search rules) ∙ c.number_of-at.ensures.value in
    let number = to_z-of_z w64 c.wide-number.result (search rules) ∙ c.wide-number.ensures.value in
    ap (λ (n : ℤ). has_point n (points_at es (to_z w64 (of_z w64 c.number_of-at.result)))) number ∙ ap
    (λ (k : ℤ). has_point (pos c.args.number) (points_at es k)) at
    ∙ (is_open_within (c.self.inside.days, es) c.args.day c.args.number
    (ap (λ (r : Kept). has_number r c.args.day c.args.number) c.self.view_is ∙ c.requires.open)).1

pub raise_in-requires-clause-sums : goal.raise_in-requires-clause-sums
raise_in-requires-clause-sums c =
    small_numbers (c.self.inside.days, c.self.inside.numbers.entries) c.self.invariant
    (small_view _ _ c.self.view_is c.requires.sums) _

both : (c : goal.After-raise_in)
    → (let s : Kept =
    (c.raise.new.self, c.raise_in.new.parts.entries) in IsRow s
    × RaisedRow c.args.day c.args.number c.args.qty (c.self.inside.days, c.self.inside.numbers.entries) s)
both c =
    let r : Kept = (c.self.inside.days, c.self.inside.numbers.entries) in
    let s : Kept = (c.raise.new.self, c.raise_in.new.parts.entries) in
    raised_parts r s c.args.day c.args.number c.args.qty _ _ _
    (to_z-of_z w64 c.number_of-at.result (search rules) ∙ c.number_of-at.ensures.value)
    (to_z-of_z w64 c.wide-number.result (search rules) ∙ c.wide-number.ensures.value)
    (to_z-of_z w64 c.args.qty (search rules))
    c.raise.ensures c.raise_in.ensures.own c.raise_in.ensures.others c.self.invariant

pub invariant_of-self : goal.invariant_of-self
invariant_of-self c = (both c).0

pub returns-clause-raised : goal.returns-clause-raised
returns-clause-raised c = subst
    (λ (r : Kept).
    RaisedRow c.args.day c.args.number c.args.qty r (c.raise.new.self, c.raise_in.new.parts.entries))
    c.self.view_is (both c).1
