use Rattle.std.proofs.Common.{◌≡◌, ℕ, ◌<◌, ◌≤◌, ◌-◌, length, get_or, true, false}
use Rattle.day_sums.specs.Points.{is_through, blank_point}
use Rattle.day_sums.proofs.points.count_through.Given as goal

abbrev pub invariant-halves : goal.invariant-halves
invariant-halves l = record {
  order : l.low ≤ l.high;
  bound : l.high ≤ length l.points;
  passes : (k : ℕ) → k < l.low → is_through l.fn.at (get_or l.points k blank_point) ≡ true;
  stops : l.high < length l.points → is_through l.fn.at (get_or l.points l.high blank_point) ≡ false;
}

abbrev pub decreases-halves : goal.decreases-halves
decreases-halves l = l.high - l.low
