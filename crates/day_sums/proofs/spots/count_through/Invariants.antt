use Rattle.std.proofs.Common.{ℕ, ◌-◌, ◌<◌, ◌≤◌, ◌≤ℤ◌, ◌<ℤ◌, length, get_or}
use Rattle.day_sums.specs.Spots.{blank_spot}
use Rattle.day_sums.proofs.spots.count_through.Given as goal

abbrev pub invariant-halves : goal.invariant-halves
invariant-halves l = record {
  order : l.low ≤ l.high;
  bound : l.high ≤ length l.spots;
  through : (k : ℕ) → k < l.low → (get_or l.spots k blank_spot).day.0 ≤ℤ l.day.0;
  behind : (k : ℕ) → l.high ≤ k → k < length l.spots → l.day.0 <ℤ (get_or l.spots k blank_spot).day.0;
}

abbrev pub decreases-halves : goal.decreases-halves
decreases-halves l = l.high - l.low
