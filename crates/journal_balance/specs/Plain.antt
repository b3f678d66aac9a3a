-- Entries of which everything is written: each posting has an amount and no cost, as those that the treasury makes
-- itself (own rule).
use Rattle.std.specs.Prelude.{◌≡◌, ◌≤◌, ℕ, ℤ, ◌+◌, List, [], ◌∷◌, ◌++◌, Bool, true, ◌&&◌, not, is_some, unsigned_abs}
use Rattle.std.specs.Prelude.{Option, Some, None}
use Rattle.std.specs.List.{list_all, AllByRecursion}
use Rattle.money_core.specs.declared.unit.Unit.{Unit as Commodity}
use Rattle.money_core.specs.Amount.{limit}
use Rattle.book_core.specs.declared.leg.Leg.{Leg}
use Rattle.book_core.specs.declared.claim.Placed.{Placed}
use Rattle.book_core.specs.declared.entry.Entry.{Entry}
use Rattle.book_core.specs.GoodBook.{IsBalanced}
use Rattle.journal_format.specs.declared.posting.Posting.{Posting}
use Rattle.journal_format.specs.declared.txn.Txn.{Txn}
use Rattle.journal_balance.specs.Legs.{leg, placed}

-- the leg of an amount, if there is one
abbrev pub written_leg : List ℕ → Option (Commodity × ℤ) → List Leg
written_leg account None = []
written_leg account (Some a) = leg account a.0 a.1 ∷ []

-- the legs of postings as they are written
abbrev pub written_legs : List Posting → List Leg
written_legs [] = []
written_legs (p ∷ ps) = written_leg p.account p.amount ++ written_legs ps

-- their assertions, each on its own leg, the legs numbered from k
abbrev pub written_claims : ℕ → List Posting → List Placed
written_claims k [] = []
written_claims k (p ∷ ps) = placed k p.claim ++ written_claims (k + 1) ps

-- the entry of such postings
abbrev pub written_entry : Txn → Entry
written_entry t = record { day = t.day; legs = written_legs t.postings; claims = written_claims 1 t.postings }

-- an amount is written, and no cost
abbrev pub is_written : Posting → Bool
is_written p = is_some p.amount && not (is_some p.price)

-- a transaction of which everything is written: its amounts sum to zero in every commodity, each within the limit
pub record IsWritten (t : Txn) : Type 0 where
  pub written : list_all is_written t.postings ≡ true
  pub balanced : IsBalanced (written_legs t.postings)
  pub small : AllByRecursion (λ (x : Leg). unsigned_abs x.qty ≤ limit) (written_legs t.postings)
