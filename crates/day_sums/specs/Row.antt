-- The running sums of one row: through each day, and on each day through each of its numbers.
use Rattle.std.specs.Prelude.{◌≡◌, true, Bool, ◌&&◌, List, [], ◌∷◌, ℕ, ℤ, pos, negsuc, ◌+ℤ◌, if◌then◌else◌}
use Rattle.money_core.specs.declared.day.Day.{Day}
use Rattle.day_sums.specs.declared.points.Point.{Point}
use Rattle.day_sums.specs.Points.{is_none, point_sum, has_point}
use Rattle.day_sums.specs.Blocks.{Spread, points_at, day_sum, has_day, one_day}
use Rattle.day_sums.specs.declared.period.Period.{Period}
use Rattle.day_sums.specs.declared.period.Period.TheVariants.{Before, Through, Within}
use Rattle.day_sums.specs.Period.{is_in}

-- a row as it is kept: the sums through its days, and for a day those of its own through its numbers
abbrev pub Kept : Type 0
Kept = Spread × List (ℤ × List Point)

-- the row of no quantity
abbrev pub no_row : Kept
no_row = (([], []), [])

-- the sum over a period
abbrev pub row_sum : Kept → Period → ℤ
row_sum r (Before d) = day_sum r.0 (d.0 +ℤ negsuc 0)
row_sum r (Through d) = day_sum r.0 d.0
row_sum r (Within d n) = point_sum (pos 0) (points_at r.1 d.0) (pos n)

-- the row of one quantity
abbrev pub one : Day → ℕ → ℤ → Kept
one day n q = (one_day day.0 q, (day.0, record { at = pos n; sum = q } ∷ []) ∷ [])

-- a row that has no day yet has its first quantity alone
abbrev pub whole : Day → ℕ → ℤ → Kept → Kept
whole day n q r = if is_none r.0.0 then one day n q else r

-- whether a day's number is open
abbrev pub has_number : Kept → Day → ℕ → Bool
has_number r d n = has_day d.0 r.0 && has_point (pos n) (points_at r.1 d.0)

-- no number is below 0
abbrev pub IsRow : Kept → Type 0
IsRow r = (k : ℤ) (j : ℕ) → point_sum (pos 0) (points_at r.1 k) (negsuc j) ≡ pos 0

-- the same sums, and what was open is open
pub record SameRow (old new : Kept) : Type 0 where
  pub sums : (p : Period) → row_sum new p ≡ row_sum old p
  pub opened : (d : Day) (n : ℕ) → has_number old d n ≡ true → has_number new d n ≡ true

-- the sums over the periods that the day's number is in are more by q
pub record RaisedRow (day : Day) (n : ℕ) (q : ℤ) (old new : Kept) : Type 0 where
  pub sums : (p : Period) → row_sum new p ≡ row_sum old p +ℤ (if is_in p day n then q else pos 0)
  pub opened : (d : Day) (k : ℕ) → has_number old d k ≡ true → has_number new d k ≡ true
