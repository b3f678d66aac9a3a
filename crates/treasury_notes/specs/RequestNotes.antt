-- The notes of what is no import: of a lock, a closing, a dispatch, a receipt, a commodity and a register (own rule;
-- docs/RULES.md, "Notes").
use Rattle.std.specs.Prelude.{ℕ, nat_lt, ◌==◌, pos, Bool, false, if◌then◌else◌, List, [], ◌++◌, codes, length, take}
use Rattle.std.specs.Prelude.{drop, Option, Some, None}
use Rattle.std.specs.Option.{option_map}
use Rattle.std.specs.Ordering.{int_eq}
use Rattle.money_core.specs.declared.day.Day.{Day}
use Rattle.money_core.specs.declared.style.Style.{Style}
use Rattle.book_core.specs.Accounts.{book_accounts}
use Rattle.treasury_state.specs.declared.record.Record.{Record}
use Rattle.treasury_state.specs.Federation.{Federation, Branch, branch_at, entries}
use Rattle.treasury_requests.specs.declared.request.Request.{Request}
use Rattle.treasury_requests.specs.declared.request.Request.TheVariants as req
use Rattle.treasury_requests.specs.declared.request.WrittenPart.{WrittenPart}
use Rattle.treasury_requests.specs.Request.{branch_asked}
use Rattle.treasury_messages.specs.declared.kind.MessageKind.TheVariants as is
use Rattle.treasury_messages.specs.Said.{Said}
use Rattle.journal_hints.specs.OddAmount.{odd_amount, amount_said}
use Rattle.treasury_reasons.specs.HeldTransfer.{id_asked, transfer_in}
use Rattle.import_notes.specs.declared.import.BranchBefore.{BranchBefore as HeldOfBranch}
use Rattle.import_notes.specs.FarDays.{span_of, far_transfer}
use Rattle.treasury_notes.specs.declared.notes.HeldBefore.{HeldBefore}
use Rattle.treasury_notes.specs.Days.{late_said, early_said, later_said, unasserted_said}
use Rattle.treasury_notes.specs.NamedAccount.{named_account_said, unknown_said}
use Rattle.treasury_notes.specs.OpenYear.{open_year_said}
use Rattle.treasury_notes.specs.ReportNotes.{register_said}
use Rattle.treasury_notes.specs.SampleNote.{sample_said}

-- ---- what is asked

-- the branch of that name
abbrev pub branch_in : Federation → Option (List ℕ) → Option Branch
branch_in f None = None
branch_in f (Some name) = branch_at f.branches name

-- the amount of a dispatch, or of a part that is received
abbrev pub amount_asked : Request → Option (List ℕ)
amount_asked (req.Dispatch id from to day amount account) = Some amount
amount_asked (req.Receive id branch day account part) = option_map (λ (p : WrittenPart). p.amount) part
amount_asked _ = None

-- ---- what was held before

-- by a branch: how many records, how many accounts of their legs, and the day through which it was locked
abbrev pub held_by : Branch → HeldOfBranch
held_by b = record {
  entries = length b.records;
  accounts = length (book_accounts (entries b.records));
  locked = b.locked;
  is_dry_run = false;
}

-- by all: how many commodities were declared, and what the branch of the request held, if it was there
abbrev pub held_before : Federation → Request → HeldBefore
held_before f request = record {
  commodities = length f.styles;
  branch = option_map held_by (branch_in f (branch_asked request));
}

-- ---- what is said of each

-- a branch is locked through that very day
abbrev pub is_locked_through : Option Day → Day → Bool
is_locked_through None day = false
is_locked_through (Some lock) day = int_eq lock.0 day.0

-- of a lock, unless the branch was locked through that day before: of its day, of the period that it ends, and of what
-- it leaves of a year
abbrev pub lock_notes : List Style → Branch → Option Day → Day → List Said
lock_notes styles b locked day =
    if is_locked_through locked day then []
    else early_said is.LockedEarly (pos 31) b.name day (span_of b.records)
    ++ unasserted_said b.name b.records locked day ++ open_year_said styles (entries b.records) b.name day

-- of a closing: of the accounts that are listed, of its day, of the period that it ends, and of its target
abbrev pub closing_notes : List ℕ → List Record → Option Day → Day → Option (List ℕ) → Option (List ℕ) → List Said
closing_notes branch held locked day accounts into =
    unknown_said branch accounts held ++ early_said is.ClosedEarly (pos 183) branch day (span_of held)
    ++ later_said branch held day (span_of held) ++ unasserted_said branch held locked day
    ++ named_account_said (codes "--into") into branch held

-- of an amount, if there is one
abbrev pub amount_if : List Style → Option (List ℕ) → List Said
amount_if styles None = []
amount_if styles (Some text) = amount_said styles text (odd_amount styles text)

-- of a dispatch or a receipt: of its day, of the days since the dispatch, of its amount, and of its account
abbrev pub transfer_notes : Federation → Request → Day → List ℕ → List ℕ → List Record → List Said
transfer_notes f request day account branch held =
    far_transfer held day branch ++ late_said day (transfer_in f (id_asked request))
    ++ amount_if f.styles (amount_asked request) ++ named_account_said (codes "--account") (Some account) branch held

-- ---- a request

-- what makes an entry, an import aside, on a branch that was locked like this and held these records before
abbrev pub entry_notes : Federation → Request → List ℕ → Option Day → List Record → List Said
entry_notes f (req.Dispatch id from to day amount account) branch locked held =
    transfer_notes f (req.Dispatch id from to day amount account) day account branch held
entry_notes f (req.Receive id name day account part) branch locked held =
    transfer_notes f (req.Receive id name day account part) day account branch held
entry_notes f (req.Close name day accounts into) branch locked held =
    closing_notes branch held locked day accounts into
entry_notes f _ branch locked held = []

-- the notes of a request on a branch that was locked like this before, held these records, and got the new ones
abbrev pub notes_on : Federation → Request → Branch → Option Day → List Record → List Record → List Said
notes_on f (req.Lock name day) b locked held new = lock_notes f.styles b locked day
notes_on f request b locked held new = if length new == 0 then [] else entry_notes f request b.name locked held

-- those on its branch, if that is there; what it held before
abbrev pub notes_if_there : Federation → Request → HeldOfBranch → Option Branch → List Said
notes_if_there f request before None = []
notes_if_there f request before (Some b) =
    notes_on f request b before.locked (take before.entries b.records) (drop before.entries b.records)

abbrev pub notes_if_held : Federation → Request → Option HeldOfBranch → List Said
notes_if_held f request None = []
notes_if_held f request (Some before) = notes_if_there f request before (branch_in f (branch_asked request))

-- the notes of a request that was answered, and no refusal; what was held before it
abbrev pub request_notes : Federation → Request → HeldBefore → List Said
request_notes f (req.Commodity sample) before =
    if nat_lt before.commodities (length f.styles) then sample_said sample else []
request_notes f (req.Register branch account tag from) before = register_said (branch_at f.branches branch) account tag
request_notes f request before = notes_if_held f request before.branch

-- those of a dry run of it, which would add these records
abbrev pub ahead_if_there : Federation → Request → List Record → Option Branch → List Said
ahead_if_there f request new None = []
ahead_if_there f request new (Some b) = notes_on f request b b.locked b.records new

abbrev pub notes_ahead : Federation → Request → List Record → List Said
notes_ahead f request new = ahead_if_there f request new (branch_in f (branch_asked request))
