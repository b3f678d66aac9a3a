-- Mirrors code: the places of the assertions that new entries reach, as a list in order.
use Rattle.std.specs.Prelude.{◌≡◌, true, None, List, ◌++◌, length, map, Contains}
use Rattle.day_sums.specs.declared.spots.Spot.{Spot}
use Rattle.book_core.specs.declared.entry.Entry.{Entry}
use Rattle.book_core.specs.declared.place.Place.{Place}
use Rattle.book_core.specs.Claim.{Asserted, asserted_from, failure}
use Rattle.book_core.specs.ClaimIndex.{spot_at}
use Rattle.book_core.specs.Examine.{examined, ArePlaces}
use Rattle.book_core.specs.Reached.{is_reached, reached}

-- the places of assertions
abbrev pub places_of : List Asserted → List Place
places_of xs = map (λ (x : Asserted). x.place) xs

-- an assertion of the book stands at the place, and a new leg touches it
abbrev pub IsReachedAt : List Entry → List Entry → Place → Type 0
IsReachedAt b e p = (x : Asserted) × Contains (asserted_from 1 b) x × (x.place ≡ p) × (is_reached b e x ≡ true)

-- at each of the places one does
abbrev pub AreReachedAt : List Entry → List Entry → List Place → Type 0
AreReachedAt b e places = (p : Place) → Contains places p → IsReachedAt b e p

-- those at the spots that a new leg touches have their places here
abbrev pub HasReached : List Entry → List Entry → List Spot → List Place → Type 0
HasReached b e spots places = (x : Asserted) → Contains (asserted_from 1 b) x → is_reached b e x ≡ true
    → Contains spots (spot_at x.place) → Contains places x.place

-- the places are those of the reached assertions, in order, each once; where every assertion of the book held, the
-- first failure with the new entries is at one of them
pub record Gathered (b e : List Entry) (places : List Place) : Type 0 where
  pub are : ArePlaces (b ++ e) places
  pub count : length places ≡ reached b e
  pub first : failure b ≡ None → examined (b ++ e) places ≡ failure (b ++ e)
