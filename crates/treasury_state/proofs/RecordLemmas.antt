-- good records: their entries are fit, and on days that can be written
use Rattle.std.proofs.Common.{List, [], ◌∷◌, sym, subst, arith, ℤ, pos, neg_ℤ, ◌≤ℤ◌, FitsSigned}
use Rattle.std.specs.Int.{w32}
use Rattle.std.specs.List.{AllByRecursion}
use Rattle.std.proofs.lemmas.Int.{ints}
use Rattle.money_core.specs.declared.style.Style.{Style}
use Rattle.money_core.specs.declared.day.Day.{Day}
use Rattle.book_core.specs.GoodBook.{IsFit}
use Rattle.journal_lines.specs.Date.{IsDayNumber}
use Rattle.journal_lines.proofs.DateLemmas.{day_number_bounds}
use Rattle.journal_balance.proofs.EntryLemmas.{entry_fit, entry_day}
use Rattle.treasury_state.specs.declared.record.Record.{Record}
use Rattle.treasury_state.specs.Federation.{entries}
use Rattle.treasury_state.specs.Good.{IsGoodRecord, IsShort}

-- the entries of good records are fit
pub fit_records : (styles : List Style) (rs : List Record) → AllByRecursion (IsGoodRecord styles) rs
    → AllByRecursion IsFit (entries rs)
fit_records styles [] h = tt
fit_records styles (r ∷ rs) h =
    (entry_fit styles r.txn r.entry h.0.printable.postings h.0.legs, fit_records styles rs h.1)

-- and on days of the years 1 to 9999
pub day_records : (styles : List Style) (rs : List Record) → AllByRecursion (IsGoodRecord styles) rs
    → AllByRecursion (λ (r : Record). IsDayNumber r.entry.day) rs
day_records styles [] h = tt
day_records styles (r ∷ rs) h = (
  subst IsDayNumber (sym (entry_day styles r.txn r.entry h.0.legs)) h.0.printable.header.number,
  day_records styles rs h.1,
)

-- a day of the years 1 to 9999 is in 32 bits
short_bounds : (z : ℤ) → neg_ℤ (pos 719_162) ≤ℤ z → z ≤ℤ pos 2_932_896 → FitsSigned w32 z
short_bounds z low high = omega (arith, ints)

pub short_day : (d : Day) → IsDayNumber d → IsShort d
short_day d h = let bounds = day_number_bounds d h in short_bounds d.0 bounds.0 bounds.1
