-- What is said of a dry run that is not refused (own rule; docs/RULES.md, "Notes").
use Rattle.std.specs.Prelude.{ℕ, ◌-◌, ◌==◌, nat_eq, ℤ, pos, ◌+ℤ◌, Bool, ◌&&◌, if◌then◌else◌}
use Rattle.std.specs.Prelude.{List, [], ◌∷◌, ◌++◌, length, take, map, find, decimal, Option, Some, None}
use Rattle.std.specs.List.{flat_map}
use Rattle.std.specs.Ordering.{int_eq}
use Rattle.std.specs.Str.{bytes_eq}
use Rattle.money_core.specs.declared.day.Day.{Day}
use Rattle.money_core.specs.declared.style.Style.{Style}
use Rattle.money_core.specs.declared.unit.Unit.{Unit as Commodity}
use Rattle.book_core.specs.declared.account.Reach.TheVariants.{Own}
use Rattle.book_core.specs.declared.entry.Entry.{Entry}
use Rattle.book_core.specs.declared.leg.Leg.{Leg}
use Rattle.book_core.specs.declared.place.Until.TheVariants.{Through}
use Rattle.book_core.specs.Balance.{balance}
use Rattle.journal_lines.specs.Lines.{numbered}
use Rattle.journal_format.specs.declared.txn.Located.{Located}
use Rattle.journal_format.specs.CanonicalText.{txn_text}
use Rattle.treasury_state.specs.declared.record.Record.{Record}
use Rattle.treasury_state.specs.declared.transfer.Transfer.{Transfer}
use Rattle.treasury_state.specs.declared.delta.Addition.{Addition}
use Rattle.treasury_state.specs.declared.delta.Addition.TheVariants as add
use Rattle.treasury_state.specs.Federation.{Federation, Branch, entries}
use Rattle.treasury_core.specs.Step.{records_in_file}
use Rattle.treasury_reasons.specs.Held.{account_asked}
use Rattle.treasury_requests.specs.declared.request.Request.{Request}
use Rattle.treasury_requests.specs.declared.request.Request.TheVariants as req
use Rattle.treasury_requests.specs.Request.{branch_asked}
use Rattle.treasury_messages.specs.declared.kind.MessageKind.TheVariants as is
use Rattle.treasury_messages.specs.Pieces.{shown_amount, header_values}
use Rattle.treasury_messages.specs.Said.{Said, says}
use Rattle.treasury_reasons.specs.Reading.{line_of}
use Rattle.import_notes.specs.ImportNotes.{import_ahead}
use Rattle.treasury_notes.specs.RequestNotes.{branch_in, notes_ahead}
use Rattle.treasury_notes.specs.SampleNote.{sample_said}

-- the records among what would be added, in order
abbrev pub record_added : Addition → List Record
record_added (add.Record name r) = r ∷ []
record_added _ = []

abbrev pub records_added : List Addition → List Record
records_added additions = flat_map record_added additions

-- ---- the entries that an import would make

-- of each its place and its header; at most so many, and then how many more there are
abbrev pub new_entry_said : List ℕ → (Record → ℕ) → Record → List Said
new_entry_said source line r = says is.NewEntry (source ∷ decimal (line r) ∷ header_values r.txn) ∷ []

abbrev pub most_new_entries : ℕ
most_new_entries = 200

abbrev pub more_entries_said : ℕ → List Said
more_entries_said n = if n == 0 then [] else (says is.MoreNewEntries (decimal n ∷ []) ∷ [])

unfoldable pub new_entries_said : List ℕ → (Record → ℕ) → List Record → List Said
new_entries_said source line new =
    flat_map (new_entry_said source line) (take most_new_entries new)
    ++ more_entries_said (length new - most_new_entries)

-- ---- the entry that another command would make

-- the lines of its canonical text
abbrev pub entry_line_said : List ℕ → Said
entry_line_said line = says is.EntryLine (line ∷ [])

unfoldable pub lines_said : List ℕ → List Said
lines_said text = map (λ (l : ℕ × List ℕ). entry_line_said l.1) (numbered 1 text)

-- the entry's leg on it
abbrev pub is_leg_on : List ℕ → Leg → Bool
is_leg_on account x = bytes_eq x.account account

abbrev pub leg_on : Option (List ℕ) → List Leg → Option Leg
leg_on None legs = None
leg_on (Some account) legs = find (is_leg_on account) legs

-- a day after which none comes
abbrev pub last_day : Day
last_day = record { 0 = pos 2147483647 }

-- what the leg makes of the balance of the account by itself in the commodity, through all days
abbrev pub balances_said : List Style → Commodity → List ℕ → ℤ → ℤ → List Said
balances_said styles unit account before qty =
    says is.Balances
    (account ∷ shown_amount styles unit before ∷ shown_amount styles unit (before +ℤ qty) ∷ []) ∷ []

abbrev pub balances_if : List Style → List Entry → Option Leg → List Said
balances_if styles book None = []
balances_if styles book (Some x) =
    balances_said styles x.unit x.account (balance Own book x.account x.unit (Through last_day)) x.qty

-- of an entry, which can be printed, in the book of a branch
abbrev pub made_said : List Style → List Entry → Option (List ℕ) → Record → List Said
made_said styles book account r =
    lines_said (txn_text styles r.txn) ++ balances_if styles book (leg_on account r.entry.legs)

-- ---- a transfer

-- another one has its branches, its day and its amount
abbrev pub is_like : Transfer → Transfer → Bool
is_like t other =
    bytes_eq other.source t.source && bytes_eq other.target t.target && int_eq other.day.0 t.day.0
    && nat_eq other.unit.0 t.unit.0 && int_eq other.qty t.qty

abbrev pub like_if : Option Transfer → List Said
like_if None = []
like_if (Some t) = says is.LikeTransfer (t.id ∷ []) ∷ []

-- the first of those that are held, if one would be dispatched
abbrev pub like_transfer_said : List Transfer → Addition → List Said
like_transfer_said held (add.Dispatched t) = like_if (find (is_like t) held)
like_transfer_said held _ = []

-- ---- a request

-- what it would make, an import aside
abbrev pub made_ahead : Federation → Request → List Addition → Option Branch → List Said
made_ahead f request additions None = []
made_ahead f request additions (Some b) =
    flat_map (made_said f.styles (entries b.records) (account_asked request)) (records_added additions)
    ++ flat_map (like_transfer_said f.transfers) additions

-- all that is said of it: what it would make, and then its notes
abbrev pub dry_run_said : Federation → Request → List Addition → List Said
dry_run_said f (req.Commodity sample) additions = if length additions == 0 then [] else sample_said sample
dry_run_said f request additions =
    made_ahead f request additions (branch_in f (branch_asked request))
    ++ notes_ahead f request (records_added additions)

-- the same of an import that would add these records, where the journal has these transactions
abbrev pub import_dry_run : Federation → List ℕ → List ℕ → List ℕ → List Record → List Located → List Said
import_dry_run f name source text new list =
    new_entries_said source (line_of list (records_in_file f.styles list)) new
    ++ import_ahead f name source text new list
