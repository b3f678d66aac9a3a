-- A row of numbers that rise, each with the sum through it.
use Rattle.std.specs.Prelude.{◌≡◌, Bool, true, false, ℕ, nat_eq, nat_lt, ◌-◌, ◌&&◌, if◌then◌else◌, List, [], ◌∷◌, ◌++◌}
use Rattle.std.specs.Prelude.{length, take, drop, map, slice_index_or, ℤ, pos, ◌+ℤ◌, ◌<ℤ◌, ◌≤ℤ◌, neg_ℤ, ⊤, int_le}
use Rattle.std.specs.Prelude.{int_lt}
use Rattle.std.specs.List.{AllByRecursion, list_any}
use Rattle.std.specs.Ordering.{int_eq}
use Rattle.day_sums.specs.declared.points.Point.{Point}

-- the sum through a number, z being that before the row: it stays from one point to the next
abbrev pub point_sum : ℤ → List Point → ℤ → ℤ
point_sum z [] d = z
point_sum z (p ∷ ps) d = if int_le p.at d then point_sum p.sum ps d else z

-- whether a number has its point
abbrev pub has_point : ℤ → List Point → Bool
has_point d ps = list_any (λ (p : Point). int_eq p.at d) ps

-- whether there is no point
abbrev pub is_none : List Point → Bool
is_none [] = true
is_none (p ∷ ps) = false

-- the numbers rise
abbrev pub Ascends : List Point → Type 0
Ascends [] = ⊤
Ascends (p ∷ ps) = AllByRecursion (λ (q : Point). p.at <ℤ q.at) ps × Ascends ps

-- at most m, up or down
pub record IsUpTo (m : ℕ) (z : ℤ) : Type 0 where
  pub low : neg_ℤ (pos m) ≤ℤ z
  pub high : z ≤ℤ pos m

-- the same sums, and what had its point has it still
pub record SamePoints (old new : List Point) : Type 0 where
  pub sums : (d : ℤ) → point_sum (pos 0) new d ≡ point_sum (pos 0) old d
  pub points : (d : ℤ) → has_point d old ≡ true → has_point d new ≡ true

-- each sum from `at` on is more by q
pub record RaisedPoints (at q : ℤ) (old new : List Point) : Type 0 where
  pub sums : (d : ℤ) → point_sum (pos 0) new d ≡ point_sum (pos 0) old d +ℤ (if int_le at d then q else pos 0)
  pub points : (d : ℤ) → has_point d old ≡ true → has_point d new ≡ true

-- ---- what mirrors code

-- the point is before the day
abbrev pub is_point_before : ℤ → Point → Bool
is_point_before d p = int_lt p.at d

-- the point is on the day or before it
abbrev pub is_through : ℤ → Point → Bool
is_through d p = int_le p.at d

-- a point for places that have none
abbrev pub blank_point : Point
blank_point = record { at = pos 0; sum = pos 0 }

-- the sum before the k-th point
abbrev pub base_at : ℤ → List Point → ℕ → ℤ
base_at z ps k = if nat_eq k 0 then z else (slice_index_or ps (k - 1) blank_point).sum

-- whether a number has its point at the k-th place
abbrev pub is_there : ℤ → List Point → ℕ → Bool
is_there d ps k = nat_lt k (length ps) && int_eq (slice_index_or ps k blank_point).at d

-- the point with its sum raised by q
abbrev pub more : ℤ → Point → Point
more q p = record { at = p.at; sum = p.sum +ℤ q }

-- each sum from the k-th point on is more by q
abbrev pub raised_from : ℕ → ℤ → List Point → List Point
raised_from k q ps = take k ps ++ map (more q) (drop k ps)
