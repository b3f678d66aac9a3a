use Rattle.std.proofs.Common.{◌≡◌, ◌++◌, take, drop}
use Rattle.day_sums.specs.Points.{raised_from}
use Rattle.day_sums.proofs.points.raise_from.Given as goal

abbrev pub invariant-loop-i : goal.invariant-loop-i
invariant-loop-i l = l.points ≡ take l.i (raised_from l.start l.qty l.fn.points) ++ drop l.i l.fn.points
