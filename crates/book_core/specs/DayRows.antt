-- Running sums by day that stand for the balances of a book.
use Rattle.std.specs.Prelude.{◌≡◌, Option, Some, None, ◌<◌, ◌≤◌, ◌-◌, ℕ, true, Bool, ◌&&◌, nat_eq, if◌then◌else◌, ⊤}
use Rattle.std.specs.Prelude.{List, [], ◌∷◌, length, take, slice_index_or, ℤ, pos, ◌+ℤ◌}
use Rattle.money_core.specs.declared.unit.Unit.{Unit as Commodity}
use Rattle.money_core.specs.declared.day.Day.{Day}
use Rattle.day_sums.specs.declared.sums.DaySums.{DaySums}
use Rattle.day_sums.specs.declared.period.Period.{Period}
use Rattle.day_sums.specs.Period.{is_in}
use Rattle.day_sums.specs.Sums.{period_sum, is_open}
use Rattle.day_sums.specs.Points.{IsUpTo}
use Rattle.book_core.specs.declared.leg.Leg.{Leg}
use Rattle.book_core.specs.declared.entry.Entry.{Entry}
use Rattle.book_core.specs.declared.account.Reach.{Reach}
use Rattle.book_core.specs.declared.account.Reach.TheVariants.{Own, Inside}
use Rattle.book_core.specs.Account.{reaches, colon}
use Rattle.std.specs.List.{AllByRecursion}
use Rattle.book_core.specs.Book.{Posted, posted}
use Rattle.book_core.specs.Balance.{total, sum_in, moved, turnover}
use Rattle.book_core.specs.GoodBook.{most_turnover}

-- a leg counts over a period for the account in the commodity; on a day legs are in the order of their entries' numbers
abbrev pub counts_in : Reach → List ℕ → Commodity → Period → Posted → Bool
counts_in reach account unit p x =
    (nat_eq x.leg.unit.0 unit.0 && reaches reach account x.leg.account) && is_in p x.place.day x.place.entry

-- the rows' sums over each period are those of the book's legs
abbrev pub AreSums : Reach → DaySums → List Entry → Type 0
AreSums reach rows b =
    (a : List ℕ) (u : Commodity) (p : Period) → period_sum rows a u p ≡ total (counts_in reach a u p) (posted b)

-- the rows of the fronts of a name that end before one of its first i bytes, a colon, have the day's number n
abbrev pub FrontsOpen : DaySums → List ℕ → Commodity → Day → ℕ → ℕ → Type 0
FrontsOpen rows name unit day n i =
    (j : ℕ) → j < i → slice_index_or name j 0 ≡ colon → is_open rows (take j name) unit day n ≡ true

-- the rows of an account, and for `Inside` of the accounts above it, have the day's number n
abbrev pub IsOpen : Reach → DaySums → List ℕ → Commodity → Day → ℕ → Type 0
IsOpen Own rows name unit day n = is_open rows name unit day n ≡ true
IsOpen Inside rows name unit day n =
    FrontsOpen rows name unit day n (length name) × (is_open rows name unit day n ≡ true)

-- the same for each of the legs
abbrev pub AreOpen : Reach → DaySums → List Leg → Day → ℕ → Type 0
AreOpen reach rows [] day n = ⊤
AreOpen reach rows (x ∷ xs) day n = IsOpen reach rows x.account x.unit day n × AreOpen reach rows xs day n

-- the sums of those whose balance takes in an account are more by q over the periods that a day's number n is in
pub record Raised (reach : Reach) (name : List ℕ) (unit : Commodity) (day : Day) (n : ℕ) (q : ℤ)
    (old new : DaySums) : Type 0 where
  pub sums : (a : List ℕ) (u : Commodity) (p : Period)
      → period_sum new a u p
      ≡ period_sum old a u p +ℤ (if (nat_eq unit.0 u.0 && reaches reach a name) && is_in p day n then q else pos 0)
  pub opened : (a : List ℕ) (u : Commodity) (d : Day) (k : ℕ) → is_open old a u d k ≡ true → is_open new a u d k ≡ true

-- the sums are more by what the legs add over the periods that a day's number n is in
abbrev pub AreRaised : Reach → List Leg → Day → ℕ → DaySums → DaySums → Type 0
AreRaised reach legs day n old new = (a : List ℕ) (u : Commodity) (p : Period)
    → period_sum new a u p ≡ period_sum old a u p +ℤ (if is_in p day n then sum_in reach a u legs else pos 0)

-- no sum passes the limit once the legs are added
pub record HasRoomFor (rows : DaySums) (legs : List Leg) : Type 0 where
  pub sums : (a : List ℕ) (u : Commodity) (p : Period) → IsUpTo (most_turnover - moved u legs) (period_sum rows a u p)
  pub legs_small : (u : Commodity) → moved u legs ≤ most_turnover

-- what a table of turnovers by commodity says; nothing stands for zero
abbrev pub moved_at : List ℕ → Commodity → ℕ
moved_at table u = slice_index_or table u.0 0

-- the table's turnovers are those of the book
abbrev pub AreMoved : List ℕ → List Entry → Type 0
AreMoved table b = (u : Commodity) → moved_at table u ≡ turnover u b

-- each leg's commodity is in the table
abbrev pub AreUnitsInTable : List ℕ → List Leg → Type 0
AreUnitsInTable table legs = AllByRecursion (λ (x : Leg). x.unit.0 < length table) legs

-- the next commodity after one that has a turnover, or an earlier one; none where no later one has
abbrev pub IsNextMoved : (Commodity → ℕ) → Commodity → Option Commodity → Type 0
IsNextMoved turnovers unit None = (v : Commodity) → unit.0 < v.0 → turnovers v ≡ 0
IsNextMoved turnovers unit (Some next) =
    (unit.0 < next.0) × ((v : Commodity) → unit.0 < v.0 → v.0 < next.0 → turnovers v ≡ 0)
