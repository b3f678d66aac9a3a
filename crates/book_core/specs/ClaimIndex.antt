-- Mirrors code: where the assertions of a book stand, by account.
use Rattle.std.specs.Prelude.{◌≡◌, ℕ, true, List, Contains, IfSome}
use Rattle.day_sums.specs.declared.named_spots.NamedSpots.{NamedSpots}
use Rattle.day_sums.specs.declared.spots.Spot.{Spot}
use Rattle.day_sums.specs.Spots.{row_of, spots_of, KeepsSpots}
use Rattle.book_core.specs.declared.account.Reach.{Reach}
use Rattle.book_core.specs.declared.account.Reach.TheVariants.{Own, Inside}
use Rattle.book_core.specs.declared.claim_index.ClaimIndex.{ClaimIndex}
use Rattle.book_core.specs.declared.leg.Leg.{Leg}
use Rattle.book_core.specs.declared.place.Place.{Place}
use Rattle.book_core.specs.Account.{reaches}
use Rattle.book_core.specs.Claim.{Asserted, reach_of}

-- a place as a spot: the leg is the part
abbrev pub spot_at : Place → Spot
spot_at p = record { day = p.day; number = p.entry; part = p.leg }

-- the part for assertions of a reach
abbrev pub index_part : Reach → ClaimIndex → NamedSpots
index_part Own index = index.own
index_part Inside index = index.inside

-- no account loses a spot in either part
abbrev pub KeepsFound : ClaimIndex → ClaimIndex → Type 0
KeepsFound old new = (r : Reach) → KeepsSpots (index_part r old) (index_part r new)

-- each assertion is found under its account, in the part for its reach; what else is there says nothing
abbrev pub FindsEach : ClaimIndex → List Asserted → Type 0
FindsEach index xs = (x : Asserted) → Contains xs x
    → Contains (spots_of (index_part (reach_of x.claim.kind) index) x.account) (spot_at x.place)

-- the account's row is among these, where it has one
abbrev pub IsListed : List ℕ → NamedSpots → List ℕ → Type 0
IsListed rows index a = IfSome (row_of index a) (λ n. Contains rows n)

-- the rows of the accounts of which a reach takes in one of the legs are among these
abbrev pub AreListed : Reach → List ℕ → NamedSpots → List Leg → Type 0
AreListed reach rows index legs =
    (x : Leg) → Contains legs x → (a : List ℕ) → reaches reach a x.account ≡ true → IsListed rows index a
