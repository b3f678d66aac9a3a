-- Spots by account, in the order of days (own rule).
use Rattle.std.specs.Prelude.{ℕ, ◌≤◌, ◌<◌, Bool, int_lt, List, [], length, slice_index_or, pos, ◌≤ℤ◌, Contains, Option}
use Rattle.std.specs.Option.{option_map_or}
use Rattle.std.specs.Ordering.{nat_cmp}
use Rattle.std.specs.Cmp.Lexicographic.{slice_cmp}
use Rattle.std.specs.BTreeMap.{get_by}
use Rattle.money_core.specs.declared.day.Day.{Day}
use Rattle.day_sums.specs.declared.spots.Spot.{Spot}
use Rattle.day_sums.specs.declared.named_spots.NamedSpots.{NamedSpots}

-- the number of an account's row
abbrev pub row_of : NamedSpots → List ℕ → Option ℕ
row_of m a = get_by (λ k. slice_cmp nat_cmp a k.items) m.names

-- the spots of a row
abbrev pub spots_in : NamedSpots → ℕ → List Spot
spots_in m row = slice_index_or m.rows.items row []

-- the spots of an account; none where it has no row
abbrev pub spots_of : NamedSpots → List ℕ → List Spot
spots_of m a = option_map_or (spots_in m) (row_of m a) []

-- a spot is after a day
abbrev pub is_behind : Day → Spot → Bool
is_behind day s = int_lt day.0 s.day.0

-- no account loses a spot
abbrev pub KeepsSpots : NamedSpots → NamedSpots → Type 0
KeepsSpots old new = (a : List ℕ) (s : Spot) → Contains (spots_of old a) s → Contains (spots_of new a) s

-- ---- what mirrors code

-- a spot for places that have none
abbrev pub blank_spot : Spot
blank_spot = record { day = record { 0 = pos 0 }; number = 0; part = 0 }

-- the days do not fall
abbrev pub AreByDay : List Spot → Type 0
AreByDay xs =
    (i j : ℕ) → i ≤ j → j < length xs → (slice_index_or xs i blank_spot).day.0 ≤ℤ (slice_index_or xs j blank_spot).day.0
