-- The state of a federation, as plain records (own rules; docs/RULES.md, "Branches", "Commodities", "Books").
use Rattle.std.specs.Prelude.{ℕ, suc, ◌==◌, nat_le, Bool, ◌&&◌, ◌||◌, if◌then◌else◌, List, [], ◌∷◌, map, length}
use Rattle.std.specs.Prelude.{slice_index, Option, None, find, false, int_le, Some}
use Rattle.std.specs.Char.{is_ascii_lowercase, is_ascii_digit}
use Rattle.std.specs.List.{list_all, list_any}
use Rattle.std.specs.Str.{bytes_eq}
use Rattle.money_core.specs.declared.style.Style.{Style}
use Rattle.money_core.specs.declared.day.Day.{Day}
use Rattle.book_core.specs.declared.entry.Entry.{Entry}
use Rattle.journal_format.specs.declared.txn.Txn.{Txn}
use Rattle.treasury_state.specs.declared.record.Record.{Record}
use Rattle.treasury_state.specs.declared.transfer.Transfer.{Transfer}

-- a branch: its name, the day through which it is locked, if it is, and its records in order of entry
pub record Branch : Type 0 where
  pub name : List ℕ
  pub locked : Option Day
  pub records : List Record

-- the commodities in order of declaration, the branches in order, and the transfers in byte order of their IDs
pub record Federation : Type 0 where
  pub styles : List Style
  pub branches : List Branch
  pub transfers : List Transfer

-- a lower-case ASCII letter, a digit or `-`
abbrev pub is_branch_name_byte : ℕ → Bool
is_branch_name_byte b = is_ascii_lowercase b || is_ascii_digit b || (b == 45)

-- the greatest number of bytes of a branch's name
abbrev pub most_name_bytes : ℕ
most_name_bytes = 32

-- a branch's name: a lower-case ASCII letter, then 0 to 31 lower-case letters, digits or `-`
abbrev pub is_branch_name : List ℕ → Bool
is_branch_name name =
    is_ascii_lowercase (slice_index name 0) && list_all is_branch_name_byte name && nat_le (length name) most_name_bytes

-- the greatest number of branches
abbrev pub most_branches : ℕ
most_branches = 32

-- the branch has that name
abbrev pub has_name : List ℕ → Branch → Bool
has_name name b = bytes_eq b.name name

-- there is a branch of that name
abbrev pub has_branch : Federation → List ℕ → Bool
has_branch f name = list_any (has_name name) f.branches

-- where the branch of that name stands, from 0; how many there are where none has it
abbrev pub name_place : List Branch → List ℕ → ℕ
name_place [] name = 0
name_place (b ∷ bs) name = if bytes_eq b.name name then 0 else suc (name_place bs name)

-- the branch of a name
abbrev pub branch_at : List Branch → List ℕ → Option Branch
branch_at bs name = find (has_name name) bs

-- the records of the branch of that name; none where there is none
abbrev pub records_in : List Branch → List ℕ → List Record
records_in [] name = []
records_in (b ∷ bs) name = if bytes_eq b.name name then b.records else records_in bs name

-- the records of the branch of that name in a state
abbrev pub records_of : Federation → List ℕ → List Record
records_of f name = records_in f.branches name

-- the day through which it is locked
abbrev pub lock_in : List Branch → List ℕ → Option Day
lock_in [] name = None
lock_in (b ∷ bs) name = if bytes_eq b.name name then b.locked else lock_in bs name

-- its lock day
abbrev pub lock_of : Federation → List ℕ → Option Day
lock_of f name = lock_in f.branches name

-- the day is on or before the lock day
abbrev pub is_locked : Option Day → Day → Bool
is_locked None day = false
is_locked (Some lock) day = int_le day.0 lock.0

-- the entries of records
abbrev pub entries : List Record → List Entry
entries rs = map (λ (r : Record). r.entry) rs

-- the book of the branch of that name
abbrev pub book_of : Federation → List ℕ → List Entry
book_of f name = entries (records_of f name)

-- the transactions of records, with their marks
abbrev pub txns_in : List Record → List Txn
txns_in rs = map (λ (r : Record). r.txn) rs

-- the names of branches, in order
abbrev pub names_of : List Branch → List (List ℕ)
names_of bs = map (λ (b : Branch). b.name) bs
