use Rattle.std.proofs.Common.{◌≡◌, sym, ap, ◌∙◌, pos, ℤ, ℕ, List, length, subst, rules, w64}
use Rattle.std.specs.Vec.{with_items}
use Rattle.std.specs.List.{prefix_len, AllByRecursion}
use Rattle.std.proofs.lemmas.Int.{to_z-of_z}
use Rattle.std.proofs.lemmas.List.{with_items_is}
use Rattle.day_sums.specs.declared.points.Point.{Point}
use Rattle.day_sums.specs.Points.{Ascends, RaisedPoints, IsUpTo, point_sum, has_point, is_point_before, raised_from}
use Rattle.day_sums.proofs.RaiseLemmas.{raised, small_points, same_raised, ascends_raised, length-raised}
use Rattle.day_sums.proofs.points.Points.raise.Goals as goal

pub raise_from-requires-clause-sums : goal.raise_from-requires-clause-sums
raise_from-requires-clause-sums c =
    subst (λ (ps : List Point). AllByRecursion (λ (p : Point). IsUpTo 40000000000000000 p.sum) ps)
    (sym c.deref_mut.ensures.value)
    (small_points 40000000000000000 (pos 0) c.self.inside.points.items c.self.invariant
    (λ d. subst (λ (ps : List Point). IsUpTo 40000000000000000 (point_sum (pos 0) ps d)) (sym c.self.view_is)
    (c.requires.sums d)))

-- the points as they are left
now : (c : goal.After-self-1) → c.raise_from.new.points ≡ raised c.args.at c.args.qty c.self.inside.points.items
now c =
    let ps = c.self.inside.points.items in
    c.raise_from.ensures
    ∙ ap (λ (q : ℤ). raised_from c.count_before-start.result q c.deref_mut.result.now)
    (to_z-of_z w64 c.args.qty (search rules))
    ∙ ap (λ (qs : List Point). raised_from c.count_before-start.result c.args.qty qs) c.deref_mut.ensures.value
    ∙ ap (λ (n : ℕ). raised_from n c.args.qty ps)
    (c.count_before-start.ensures.value ∙ ap (λ (a : ℤ). prefix_len (is_point_before a) c.deref.result.now)
    (to_z-of_z w64 c.args.at (search rules)) ∙ ap (λ (qs : List Point). prefix_len (is_point_before c.args.at) qs)
    c.deref.ensures.value)

items : (c : goal.After-self-1)
    → (with_items c.self.inside.points c.raise_from.new.points).items
    ≡ raised c.args.at c.args.qty c.self.inside.points.items
items c = with_items_is c.self.inside.points c.raise_from.new.points
    (ap (λ (qs : List Point). length qs) (now c) ∙ length-raised _ c.args.qty c.self.inside.points.items ∙ ap
    (λ (qs : List Point). length qs) (sym c.deref_mut.ensures.value) ∙ c.deref_mut.ensures.len) ∙ now c

pub invariant_of-self : goal.invariant_of-self
invariant_of-self c =
    subst Ascends (sym (items c)) (ascends_raised _ c.args.qty c.self.inside.points.items c.self.invariant)

pub returns : goal.returns
returns c =
    subst (RaisedPoints c.args.at c.args.qty c.args.self.now) (sym (items c))
    (subst (λ (qs : List Point). RaisedPoints c.args.at c.args.qty qs
    (raised c.args.at c.args.qty c.self.inside.points.items)) c.self.view_is
    (same_raised c.args.at c.args.qty c.self.inside.points.items
    (subst (λ (qs : List Point). has_point c.args.at qs ≡ _) (sym c.self.view_is) c.requires.open) c.self.invariant))
