-- What a failure names, for whoever prints it: all of it stands in the book (own rule).
use Rattle.std.specs.Prelude.{◌≡◌, ◌≤◌, ◌⊎◌, List, map, Contains, pos, unsigned_abs}
use Rattle.money_core.specs.declared.unit.Unit.{Unit as Commodity}
use Rattle.book_core.specs.declared.leg.Leg.{Leg}
use Rattle.book_core.specs.declared.claim.Placed.{Placed}
use Rattle.book_core.specs.declared.entry.Entry.{Entry}
use Rattle.book_core.specs.declared.refusal.Failure.{Failure}
use Rattle.book_core.specs.Book.{legs_of}
use Rattle.book_core.specs.GoodBook.{most_turnover}

-- the commodity of each leg
abbrev pub units_of : List Leg → List Commodity
units_of legs = map (λ (x : Leg). x.unit) legs

-- the failure is of an assertion on an entry of the book; it names that one's commodity and quantity, or the commodity
-- of a leg of the book, with 0 asserted; what it found is within the limit on the turnover
pub record IsOfBook (b : List Entry) (f : Failure) : Type 0 where
  pub entry : Entry
  pub in_book : Contains b entry
  pub day : f.place.day ≡ entry.day
  pub assertion : Placed
  pub on_entry : Contains entry.claims assertion
  pub leg : f.place.leg ≡ assertion.leg
  pub names : ((f.unit ≡ assertion.claim.unit) × (f.asserted ≡ assertion.claim.qty))
      ⊎ (Contains (units_of (legs_of b)) f.unit × (f.asserted ≡ pos 0))
  pub found : unsigned_abs f.found ≤ most_turnover
