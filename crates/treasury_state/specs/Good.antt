-- When a state is good, and which commands fit (own rules; docs/RULES.md, "Branches", "Books", "Marks and repeats",
-- "Transfers").
use Rattle.std.specs.Prelude.{◌≡◌, ◌≤◌, true, false, List, [], ◌∷◌, length, pos, int_le, Option, Some, None}
use Rattle.std.specs.Prelude.{Ok, ⊤, FitsSigned, IfSome}
use Rattle.std.specs.Int.{w32}
use Rattle.std.specs.List.{list_any, AllByRecursion}
use Rattle.std.specs.Str.{bytes_eq}
use Rattle.std.specs.declared.cmp.Ordering.TheVariants.{Less}
use Rattle.money_core.specs.declared.style.Style.{Style}
use Rattle.money_core.specs.declared.day.Day.{Day}
use Rattle.money_core.specs.Style.{AreStyles}
use Rattle.book_core.specs.Account.{name_cmp}
use Rattle.book_core.specs.GoodBook.{IsGoodBook}
use Rattle.journal_format.specs.Printable.{IsPrintable}
use Rattle.journal_balance.specs.Legs.{balanced_entry}
use Rattle.treasury_state.specs.declared.record.Record.{Record}
use Rattle.treasury_state.specs.declared.transfer.Part.{Part}
use Rattle.treasury_state.specs.declared.transfer.Receipt.{Receipt}
use Rattle.treasury_state.specs.declared.transfer.Transfer.{Transfer}
use Rattle.treasury_state.specs.Federation.{Branch, Federation, is_branch_name, most_branches, has_name, entries}
use Rattle.treasury_state.specs.Federation.{is_locked}
use Rattle.treasury_state.specs.Mark.{is_held, held, HaveOwnMarks, is_of_transfer, is_closing, close_mark}
use Rattle.treasury_state.specs.Transfer.{is_id, is_reserved, is_transit, is_key, sum_of_parts, rest_part, asked}

-- a record whose transaction has its mark and can be printed, and whose entry is what that transaction does
pub record IsGoodRecord (styles : List Style) (r : Record) : Type 0 where
  pub marked : r.txn.mark ≡ Some r.mark
  pub printable : IsPrintable styles r.txn
  pub legs : balanced_entry styles r.txn ≡ Ok r.entry

-- unless it is of a transfer, a record has no leg on `assets:transit` or below it
abbrev pub IsOffTransit : Record → Type 0
IsOffTransit r = is_of_transfer r ≡ false → list_any is_transit r.entry.legs ≡ false

-- a closing: its mark is `close:DAY` of its own day, and the branch is locked through that day or later
pub record IsLockedClosing (lock : Option Day) (r : Record) : Type 0 where
  pub own_day : r.mark ≡ close_mark r.entry.day
  pub locked : is_locked lock r.entry.day ≡ true

-- a record with the mark of a closing is one
abbrev pub IsWithinLock : Option Day → Record → Type 0
IsWithinLock lock r = is_closing r ≡ true → IsLockedClosing lock r

-- a day that the state in memory can have: in 32 bits
abbrev pub IsShort : Day → Type 0
IsShort d = FitsSigned w32 d.0

-- a branch: its name is well formed, its lock day, if it has one, is in 32 bits, no mark stands twice, each record is
-- good, only those of transfers are on transit accounts, a record with the mark of a closing is one, and its book is
-- good
pub record IsGoodBranch (styles : List Style) (b : Branch) : Type 0 where
  pub named : is_branch_name b.name ≡ true
  pub short : IfSome b.locked IsShort
  pub marks : HaveOwnMarks b.records
  pub records : AllByRecursion (IsGoodRecord styles) b.records
  pub off_transit : AllByRecursion IsOffTransit b.records
  pub closings : AllByRecursion (IsWithinLock b.locked) b.records
  pub book : IsGoodBook (entries b.records)

-- no two branches have the same name
abbrev pub HaveOwnNames : List Branch → Type 0
HaveOwnNames [] = ⊤
HaveOwnNames (b ∷ bs) = (list_any (has_name b.name) bs ≡ false) × HaveOwnNames bs

-- in byte order of their IDs, each once
abbrev pub AreAscending : List Transfer → Type 0
AreAscending [] = ⊤
AreAscending (t ∷ ts) = AllByRecursion (λ (x : Transfer). name_cmp t.id x.id ≡ Less) ts × AreAscending ts

-- a receipt of a positive quantity, no earlier than the dispatch, whose payee is not `assets:transit` or below it
pub record IsGoodPart (dispatched : Day) (p : Part) : Type 0 where
  pub positive : int_le (pos 1) p.qty ≡ true
  pub later : int_le dispatched.0 p.day.0 ≡ true
  pub payee : is_reserved p.payee ≡ false

-- in byte order of their keys, each once
abbrev pub AreKeyed : List Part → Type 0
AreKeyed [] = ⊤
AreKeyed (p ∷ ps) = AllByRecursion (λ (x : Part). name_cmp p.key x.key ≡ Less) ps × AreKeyed ps

-- receipts of parts: each key is well formed and none is `all`, they are in order, each receipt is good, and together
-- they are at most the amount
pub record HasGoodParts (t : Transfer) : Type 0 where
  pub keys : AllByRecursion (λ (p : Part). is_key p.key ≡ true) t.parts
  pub keyed : AreKeyed t.parts
  pub each : AllByRecursion (IsGoodPart t.day) t.parts
  pub within : int_le (sum_of_parts t.parts) t.qty ≡ true

-- the receipt of the rest is one of something
abbrev pub IsGoodRest : Transfer → Option Receipt → Type 0
IsGoodRest t None = ⊤
IsGoodRest t (Some r) = IsGoodPart t.day (rest_part t r)

-- a transfer of a positive amount between two branches that differ; neither its payer nor a payee is `assets:transit`
-- or below it, and its receipts are good
pub record IsGoodTransfer (bs : List Branch) (t : Transfer) : Type 0 where
  pub id : is_id t.id ≡ true
  pub source : list_any (has_name t.source) bs ≡ true
  pub target : list_any (has_name t.target) bs ≡ true
  pub apart : bytes_eq t.source t.target ≡ false
  pub positive : int_le (pos 1) t.qty ≡ true
  pub payer : is_reserved t.payer ≡ false
  pub parts : HasGoodParts t
  pub rest : IsGoodRest t t.receipt

-- A branch has the records that the transfers ask for, and no others of transfers: each that is asked for is found by
-- its mark, and each record with the mark of a transfer has the mark of one that is asked for.
pub record IsCarried (ts : List Transfer) (b : Branch) : Type 0 where
  pub there : AllByRecursion (λ (r : Record). held b.records r.mark ≡ Some r) (asked ts b.name)
  pub asked_for : AllByRecursion (λ (r : Record). is_of_transfer r ≡ true → is_held (asked ts b.name) r.mark ≡ true)
      b.records

-- a good state: each style is one that a sample has, and no symbol stands twice; at most 32 branches, each good, no
-- name twice; transfers in byte order of their IDs, no ID twice, each good, with its dispatch in its source's book and
-- its receipts in its target's; and no other record has the mark of a transfer
pub record IsGoodState (f : Federation) : Type 0 where
  pub styles : AreStyles f.styles
  pub few : length f.branches ≤ most_branches
  pub names : HaveOwnNames f.branches
  pub branches : AllByRecursion (IsGoodBranch f.styles) f.branches
  pub ids : AreAscending f.transfers
  pub transfers : AllByRecursion (IsGoodTransfer f.branches) f.transfers
  pub carried : AllByRecursion (IsCarried f.transfers) f.branches
