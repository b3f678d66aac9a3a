-- Values worked out by hand, so that a wrong definition of a book, of a reply or of a history does not check.
use Rattle.std.proofs.Common.{◌≡◌, refl, ℕ, List, [], ◌∷◌, ℤ, pos, neg_ℤ, Option, Some, None, true, false}
use Rattle.std.specs.Prelude.{codes}
use Rattle.money_core.specs.declared.mark.Mark.TheVariants.{Point}
use Rattle.money_core.specs.declared.unit.Unit.{Unit as Commodity}
use Rattle.money_core.specs.declared.day.Day.{Day}
use Rattle.money_core.specs.declared.claim.Claim.{Claim}
use Rattle.money_core.specs.declared.claim.ClaimKind.TheVariants.{Exact}
use Rattle.book_core.specs.declared.account.Reach.TheVariants.{Own}
use Rattle.book_core.specs.declared.place.Until.TheVariants.{Through}
use Rattle.book_core.specs.Balance.{balance}
use Rattle.journal_format.specs.declared.posting.Posting.{Posting}
use Rattle.journal_format.specs.declared.txn.Txn.{Txn}
use Rattle.journal_balance.specs.Legs.{leg}
use Rattle.treasury_state.specs.declared.record.Record.{Record}
use Rattle.treasury_state.specs.Federation.{Federation, records_of, book_of}

abbrev pub day : ℤ → Day
day n = record { 0 = n }

abbrev pub euros : Commodity
euros = record { 0 = 0 }

abbrev posting : List ℕ → ℤ → Option Claim → Posting
posting account q claim =
    record { status = None; account = account; amount = Some (euros, q); price = None; claim = claim; comments = [] }

-- an amount to the bank, and one from income
abbrev pub receipt : List ℕ → ℤ → ℤ → Option Claim → ℤ → Txn
receipt mark on q claim back = record {
  day = day on;
  status = None;
  code = None;
  description = codes "receipt";
  comments = [];
  mark = Some mark;
  postings = posting (codes "bank") q claim ∷ posting (codes "income") back None ∷ [];
}

-- `= 10.00 EUR`
abbrev ten : Claim
ten = record { kind = Exact; unit = euros; qty = pos 1000 }

-- on the 31st ten euros, and the assertion that they are all; on the 20th one euro
abbrev pub statement : Txn
statement = receipt (codes "s") (pos 31) (pos 1000) (Some ten) (neg_ℤ (pos 1000))

abbrev pub late_receipt : Txn
late_receipt = receipt (codes "l") (pos 20) (pos 100) None (neg_ℤ (pos 100))

-- the record of the statement
abbrev pub stated : Record
stated = record {
  mark = codes "s";
  txn = statement;
  entry = record {
    day = day (pos 31);
    legs = leg (codes "bank") euros (pos 1000) ∷ leg (codes "income") euros (neg_ℤ (pos 1000)) ∷ [];
    claims = record { leg = 1; claim = ten } ∷ [];
  };
}

-- two branches, the first with these records and this lock
abbrev pub federation : Option Day → List Record → Federation
federation lock rs = record {
  styles =
      record { symbol = codes "EUR"; left = false; spaced = true; mark = Point; decimals = 2; grouped = true } ∷ [];
  branches = record { name = codes "north"; locked = lock; records = rs }
      ∷ record { name = codes "south"; locked = None; records = [] } ∷ [];
  transfers = [];
}

-- the records and the book of a name
pub books : (records_of (federation None (stated ∷ [])) (codes "north") ≡ stated ∷ [])
    × (book_of (federation None (stated ∷ [])) (codes "north") ≡ stated.entry ∷ [])
    × (book_of (federation None (stated ∷ [])) (codes "south") ≡ [])
    × (book_of (federation None (stated ∷ [])) (codes "nort") ≡ [])
books = (refl, refl, refl, refl)

-- what an account has in north's book through the 31st, in euros
abbrev pub in_north : Federation → List ℕ → ℤ
in_north f account = balance Own (book_of f (codes "north")) account euros (Through (day (pos 31)))
