use Rattle.std.proofs.Common.{◌≡◌, ◌-◌, ℕ, ◌≤◌, ◌<◌, [], length, get_or}
use Rattle.std.specs.declared.cmp.Ordering.TheVariants.{Less}
use Rattle.book_core.specs.Account.{name_cmp}
use Rattle.treasury_reports.proofs.names.count_before.Given as goal

abbrev pub invariant-search : goal.invariant-search
invariant-search l = record {
  order : l.low ≤ l.high;
  bound : l.high ≤ length l.names;
  before : (k : ℕ) → k < l.low → name_cmp (get_or l.names k []) l.name ≡ Less;
  after : (k : ℕ) → l.high ≤ k → k < length l.names → name_cmp (get_or l.names k []) l.name ≡ Less → ⊥;
}

abbrev pub decreases-search : goal.decreases-search
decreases-search l = l.high - l.low
