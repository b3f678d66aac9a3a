-- Running sums by day, of accounts in commodities (own rule).
use Rattle.std.specs.Prelude.{◌≡◌, true, Bool, ◌&&◌, nat_eq, ℕ, List, ℤ, pos, ◌+ℤ◌, if◌then◌else◌, Vec}
use Rattle.std.specs.Global.{Global}
use Rattle.std.specs.Option.{unwrap_or, option_map_or}
use Rattle.std.specs.Ordering.{nat_cmp}
use Rattle.std.specs.Str.{bytes_eq}
use Rattle.std.specs.BTreeMap.{get}
use Rattle.std.specs.HashMap.{HashMap, get_by}
use Rattle.std.specs.declared.hash.FoldHasher.{FoldHasher}
use Rattle.std.specs.declared.hash.BuildHasherDefault.{BuildHasherDefault}
use Rattle.money_core.specs.declared.unit.Unit.{Unit as Commodity}
use Rattle.money_core.specs.declared.day.Day.{Day}
use Rattle.day_sums.specs.declared.sums.DaySums.{DaySums}
use Rattle.day_sums.specs.Points.{IsUpTo}
use Rattle.day_sums.specs.declared.period.Period.{Period}
use Rattle.day_sums.specs.Period.{is_in}
use Rattle.day_sums.specs.Row.{Kept, no_row, row_sum, has_number}

-- the rows of the accounts in one commodity
abbrev pub KeptByName : Type 0
KeptByName = HashMap (Vec ℕ Global) Kept (BuildHasherDefault FoldHasher)

-- the row of an account, and of an account in a commodity; empty where there is none
abbrev pub row_at : KeptByName → List ℕ → Kept
row_at names a = unwrap_or (get_by (λ k. bytes_eq a k.items) names) no_row

-- the row of an account in a commodity; empty if there is none
abbrev pub look : DaySums → List ℕ → Commodity → Kept
look rows a u = option_map_or (λ names. row_at names a) (get nat_cmp rows.units u.0) no_row

-- the sum of an account in a commodity over a period, in smallest units
abbrev pub period_sum : DaySums → List ℕ → Commodity → Period → ℤ
period_sum rows a u p = row_sum (look rows a u) p

-- whether a day's number is open for an account in a commodity: raising from it needs no memory
abbrev pub is_open : DaySums → List ℕ → Commodity → Day → ℕ → Bool
is_open rows a u d n = has_number (look rows a u) d n

-- no more than the limit on the turnover, up or down
abbrev pub IsSmall : ℤ → Type 0
IsSmall z = IsUpTo 10000000000000000 z

-- every sum is as before, and what was open is open
pub record SameSums (old new : DaySums) : Type 0 where
  pub sums : (a : List ℕ) (u : Commodity) (p : Period) → period_sum new a u p ≡ period_sum old a u p
  pub opened : (a : List ℕ) (u : Commodity) (d : Day) (n : ℕ) → is_open old a u d n ≡ true → is_open new a u d n ≡ true

-- what a sum is more by where one account has q more in one commodity, on a day with number n
abbrev pub share_of : List ℕ → Commodity → Day → ℕ → ℤ → List ℕ → Commodity → Period → ℤ
share_of account unit day n q a u p = if (nat_eq unit.0 u.0 && bytes_eq account a) && is_in p day n then q else pos 0

-- that account's sums in that commodity over the periods that it is in are more by q, every other sum is as before, and
-- what was open is open
pub record RaisedSums (account : List ℕ) (unit : Commodity) (day : Day) (n : ℕ) (q : ℤ)
    (old new : DaySums) : Type 0 where
  pub sums : (a : List ℕ) (u : Commodity) (p : Period)
      → period_sum new a u p ≡ period_sum old a u p +ℤ share_of account unit day n q a u p
  pub opened : (a : List ℕ) (u : Commodity) (d : Day) (k : ℕ) → is_open old a u d k ≡ true → is_open new a u d k ≡ true
