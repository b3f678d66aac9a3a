use Rattle.std.proofs.Common.{◌≡◌, sym, ap, ◌∙◌, pos, ℤ, List, subst, rules, w64, to_z, of_z}
use Rattle.std.specs.Prelude.{insert}
use Rattle.std.specs.List.{prefix_len}
use Rattle.std.proofs.lemmas.Int.{to_z-of_z}
use Rattle.day_sums.specs.declared.points.Point.{Point}
use Rattle.day_sums.specs.Points.{Ascends, SamePoints, is_point_before, is_there, base_at}
use Rattle.day_sums.proofs.OpenLemmas.{opened, inserted_is_opened, ascends_opened, same_opened}
use Rattle.day_sums.proofs.points.Points.open.Goals as goal

-- the points have the number's point in its place
now : (c : goal.In_ok-insert) → c.insert.new.self.items ≡ opened (pos 0) c.args.at c.self.inside.points.items
now c =
    let ps = c.self.inside.points.items in
    let n = c.count_before-place.result in
    let at = to_z-of_z w64 c.args.at (search rules) in
    inserted_is_opened c.args.at c.sum_before-sum.result ps c.insert.new.self.items n
    (c.count_before-place.ensures.value ∙ ap (λ (a : ℤ). prefix_len (is_point_before a) c.deref.result.now) at ∙ ap
    (λ (qs : List Point). prefix_len (is_point_before c.args.at) qs) c.deref.ensures.value)
    (ap (λ (qs : List Point). is_there c.args.at qs n) (sym c.deref-2.ensures.value) ∙ ap
    (λ (a : ℤ). is_there a c.deref-2.result.now n) (sym at) ∙ sym c.is_there.ensures ∙ c.if-is_there.false)
    (c.sum_before-sum.ensures ∙ ap (λ (qs : List Point). base_at (pos 0) qs n) c.deref-3.ensures.value)
    (c.in_ok-insert.ensures.items ∙ ap
    (λ (a : ℤ). insert ps n (record { at = a; sum = to_z w64 (of_z w64 c.sum_before-sum.result) })) at ∙ ap
    (λ (s : ℤ). insert ps n (record { at = c.args.at; sum = s }))
    (to_z-of_z w64 c.sum_before-sum.result (search rules)))

pub invariant_of-self-2 : goal.invariant_of-self-2
invariant_of-self-2 c =
    subst Ascends (sym (now c)) (ascends_opened c.args.at (pos 0) c.self.inside.points.items c.self.invariant)

pub returns-clause-same : goal.returns-clause-same
returns-clause-same c = subst (SamePoints c.args.self.now) (sym (now c))
    (subst (λ (qs : List Point). SamePoints qs (opened (pos 0) c.args.at c.self.inside.points.items)) c.self.view_is
    (same_opened c.args.at c.self.inside.points.items))
