-- The sums through days, in blocks of days: through each block, and in each block through its own days.
use Rattle.std.specs.Prelude.{◌≡◌, true, Bool, ◌&&◌, if◌then◌else◌, int_le, List, [], ◌∷◌, ℤ, pos, negsuc, ◌+ℤ◌}
use Rattle.std.specs.Prelude.{false, ◌*◌, ◌+◌}
use Rattle.std.specs.Prelude.{◌≤ℤ◌, FitsSigned}
use Rattle.std.specs.Int.{int_div_euclid, w64}
use Rattle.std.specs.Option.{unwrap_or}
use Rattle.std.specs.Ordering.{int_cmp}
use Rattle.std.specs.BTreeMap.{is_at}
use Rattle.std.specs.Map.{lookup}
use Rattle.day_sums.specs.declared.points.Point.{Point}
use Rattle.day_sums.specs.Points.{is_none, point_sum, has_point}

-- the points that stand at a number; none where there are none
abbrev pub points_at : List (ℤ × List Point) → ℤ → List Point
points_at es k = unwrap_or (lookup (is_at (int_cmp k)) es) []

-- the sums through the blocks, and for each block those of its own
abbrev pub Spread : Type 0
Spread = List Point × List (ℤ × List Point)

-- the block of a day, and the last day of a block
abbrev pub block_of : ℤ → ℤ
block_of d = int_div_euclid d (pos 2048)

-- the last day of a block
abbrev pub last_of : ℤ → ℤ
last_of (pos k) = pos (k * 2048 + 2047)
last_of (negsuc k) = negsuc (k * 2048)

-- the sum through a day: what earlier blocks add, and what its own adds up to it
abbrev pub day_sum : Spread → ℤ → ℤ
day_sum s d = point_sum (pos 0) s.0 (block_of d +ℤ negsuc 0) +ℤ point_sum (pos 0) (points_at s.1 (block_of d)) d

-- whether a day is open
abbrev pub has_day : ℤ → Spread → Bool
has_day d s = has_point (block_of d) s.0 && has_point d (points_at s.1 (block_of d))

-- the sums of one quantity
abbrev pub one_day : ℤ → ℤ → Spread
one_day d q = (record { at = block_of d; sum = q } ∷ [], (block_of d, record { at = d; sum = q } ∷ []) ∷ [])

-- the sum through a block is that through its last day; a block has no sum of its own before its days, and the same one
-- after them; every sum fits a machine integer
pub record IsSpread (s : Spread) : Type 0 where
  pub tops : (k : ℤ) → point_sum (pos 0) s.0 k ≡ day_sum s (last_of k)
  pub before : (k d : ℤ) → d ≤ℤ last_of (k +ℤ negsuc 0) → point_sum (pos 0) (points_at s.1 k) d ≡ pos 0
  pub behind : (k d : ℤ) → last_of k ≤ℤ d
      → point_sum (pos 0) (points_at s.1 k) d ≡ point_sum (pos 0) (points_at s.1 k) (last_of k)
  pub fits : (d : ℤ) → FitsSigned w64 (day_sum s d)

-- the same sums, and what was open is open
pub record SameDays (old new : Spread) : Type 0 where
  pub sums : (d : ℤ) → day_sum new d ≡ day_sum old d
  pub days : (d : ℤ) → has_day d old ≡ true → has_day d new ≡ true
  pub some : is_none old.0 ≡ false → is_none new.0 ≡ false

-- each sum from a day on is more by q
pub record RaisedDays (at q : ℤ) (old new : Spread) : Type 0 where
  pub sums : (d : ℤ) → day_sum new d ≡ day_sum old d +ℤ (if int_le at d then q else pos 0)
  pub days : (d : ℤ) → has_day d old ≡ true → has_day d new ≡ true
  pub some : is_none old.0 ≡ false → is_none new.0 ≡ false
