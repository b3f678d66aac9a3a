use Rattle.std.proofs.Common.{ap, ℤ, List, [], Option, pos, w64, rules, ◌∙◌}
use Rattle.std.specs.Option.{unwrap_or}
use Rattle.std.proofs.lemmas.Int.{to_z-of_z}
use Rattle.day_sums.specs.declared.points.Point.{Point}
use Rattle.day_sums.specs.Points.{point_sum}
use Rattle.day_sums.specs.Blocks.{points_at}
use Rattle.day_sums.proofs.parts.sum_in.Goals as goal

pub returns-in-None : goal.returns-in-None
returns-in-None c = ap (λ (o : Option (List Point)). point_sum (pos 0) (unwrap_or o []) c.args.number)
    c.in-None.ensures.value
    ∙ ap (λ (k : ℤ). point_sum (pos 0) (points_at c.args.parts.now.entries k) c.args.number)
    (to_z-of_z w64 c.args.key (search rules))
