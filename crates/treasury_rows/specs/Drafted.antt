-- Mirrors code: what is read from rows, and what an error says of them.
use Rattle.std.specs.Prelude.{◌≡◌, ◌<◌, ◌^◌, ◌⊎◌, ℕ, true, List, Option, Result, MatchResult, IfSome}
use Rattle.std.specs.List.{list_any, enumerate_from, flat_map, AllByRecursion}
use Rattle.money_core.specs.declared.cause.Cause.{Cause}
use Rattle.money_core.specs.declared.cause.Cause.TheVariants.{OutOfMemory, Damaged}
use Rattle.money_core.specs.declared.style.Style.{Style}
use Rattle.treasury_state.specs.declared.record.Record.{Record}
use Rattle.treasury_state.specs.declared.transfer.Part.{Part}
use Rattle.treasury_state.specs.declared.transfer.Receipt.{Receipt}
use Rattle.treasury_state.specs.declared.transfer.Transfer.{Transfer}
use Rattle.treasury_state.specs.Federation.{Branch, has_name}
use Rattle.treasury_state.specs.Good.{IsGoodRecord, IsShort}

-- want of memory; or damage, and nothing has the property
abbrev pub IsFault : {X : Type 0} → (X → Type 0) → Cause → Type 0
IsFault {X = X} P e = (e ≡ OutOfMemory) ⊎ ((e ≡ Damaged) × ((x : X) → P x → ⊥))

-- what is read is the value that has the property, if any has it; it is damaged only where none has
abbrev pub IsReading : {X : Type 0} → (X → Type 0) → Result X Cause → Type 0
IsReading {X = X} P r = MatchResult r (λ y. (x : X) → P x → x ≡ y) (IsFault P)

-- a branch of good records whose lock day can be kept
pub record IsKeepable (styles : List Style) (b : Branch) : Type 0 where
  pub short : IfSome b.locked IsShort
  pub records : AllByRecursion (IsGoodRecord styles) b.records

-- the day of a receipt can be kept
abbrev pub HasShortReceipt : Option Receipt → Type 0
HasShortReceipt o = IfSome o (λ r. IsShort r.day)

-- the days of parts can be kept
abbrev pub HaveShortDays : List Part → Type 0
HaveShortDays ps = AllByRecursion (λ (p : Part). IsShort p.day) ps

-- a transfer between branches that are there, of which commodity and days can be kept
pub record IsNamed (bs : List Branch) (t : Transfer) : Type 0 where
  pub source : list_any (has_name t.source) bs ≡ true
  pub target : list_any (has_name t.target) bs ≡ true
  pub unit : t.unit.0 < 2 ^ 16
  pub day : IsShort t.day
  pub receipt : HasShortReceipt t.receipt
  pub parts : HaveShortDays t.parts

-- the rows of records, some for each, of which the first is the n-th
abbrev pub record_rows_from : {T : Type 0} → (ℕ → Record → List T) → ℕ → List Record → List T
record_rows_from g n rs = flat_map (λ p. g p.0 p.1) (enumerate_from n rs)

-- and those of the records of branches, of which the first is the b-th
abbrev pub record_rows_in : {T : Type 0} → (ℕ → ℕ → Record → List T) → ℕ → List Branch → List T
record_rows_in g b bs = flat_map (λ p. record_rows_from (g p.0) 1 p.1.records) (enumerate_from b bs)
