use Rattle.std.proofs.Common.{ℤ, List, sym, ap, ◌∙◌, pos, rules, w64}
use Rattle.std.specs.List.{prefix_len}
use Rattle.std.proofs.lemmas.Int.{to_z-of_z}
use Rattle.day_sums.specs.declared.points.Point.{Point}
use Rattle.day_sums.specs.Points.{base_at, blank_point, is_through, point_sum}
use Rattle.day_sums.proofs.SearchLemmas.{sum_at-prefix}
use Rattle.day_sums.proofs.points.Points.sum_through.Goals as goal

pub returns : goal.returns
returns c =
    let ps = c.self.inside.points.items in
    let n = c.count_through-count.result in
    to_z-of_z w64 c.sum_before.result (search rules)
    ∙ c.sum_before.ensures
    ∙ ap (λ (qs : List Point). base_at (pos 0) qs n) c.deref-2.ensures.value
    ∙ ap (base_at (pos 0) ps) (c.count_through-count.ensures.value ∙ ap
    (λ (a : ℤ). prefix_len (is_through a) c.deref.result.now) (to_z-of_z w64 c.args.at (search rules)) ∙ ap
    (λ (qs : List Point). prefix_len (is_through c.args.at) qs) c.deref.ensures.value)
    ∙ sym (sum_at-prefix (pos 0) ps c.args.at blank_point)
    ∙ ap (λ (qs : List Point). point_sum (pos 0) qs c.args.at) c.self.view_is
