-- Which quantities a sum takes in (own rule).
use Rattle.std.specs.Prelude.{Bool, ◌&&◌, ℕ, nat_le, int_le, int_lt}
use Rattle.std.specs.Ordering.{int_eq}
use Rattle.money_core.specs.declared.day.Day.{Day}
use Rattle.day_sums.specs.declared.period.Period.{Period}
use Rattle.day_sums.specs.declared.period.Period.TheVariants.{Before, Through, Within}

-- what was added on a day with number n is in the period
abbrev pub is_in : Period → Day → ℕ → Bool
is_in (Before d) day n = int_lt day.0 d.0
is_in (Through d) day n = int_le day.0 d.0
is_in (Within d k) day n = int_eq day.0 d.0 && nat_le n k
