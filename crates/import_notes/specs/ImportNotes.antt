-- All notes of an import, in order (own rule; docs/RULES.md, "Notes").
use Rattle.std.specs.Prelude.{◌≡◌, ℕ, ◌==◌, nat_lt, Bool, true, ◌&&◌, ◌||◌, if◌then◌else◌}
use Rattle.std.specs.Prelude.{List, [], ◌++◌, length, take, drop, Option, Some, None}
use Rattle.std.specs.List.{flat_map, position_from}
use Rattle.money_core.specs.declared.style.Style.{Style}
use Rattle.book_core.specs.declared.entry.Entry.{Entry}
use Rattle.book_core.specs.Accounts.{book_accounts}
use Rattle.journal_format.specs.declared.txn.Located.{Located}
use Rattle.treasury_state.specs.declared.record.Record.{Record}
use Rattle.treasury_state.specs.Federation.{Federation, has_branch, records_of, entries}
use Rattle.treasury_core.specs.Step.{records_in_file}
use Rattle.treasury_requests.specs.declared.request.Request.{Request}
use Rattle.treasury_messages.specs.Said.{Said}
use Rattle.import_notes.specs.declared.import.BranchBefore.{BranchBefore as HeldOfBranch}
use Rattle.import_notes.specs.BroughtAccounts.{accounts_said}
use Rattle.import_notes.specs.Dated.{is_dated, date_note_at}
use Rattle.import_notes.specs.Edited.{edited_of, edited_said}
use Rattle.import_notes.specs.FarDays.{far_notes}
use Rattle.import_notes.specs.Imported.{Imported, imported}
use Rattle.journal_hints.specs.Listed.{most_notes, listed}
use Rattle.import_notes.specs.Marks.{no_marks_said, has_transaction, nothing_said}
use Rattle.import_notes.specs.NewAccount.{is_new_account, has_imported}
use Rattle.journal_hints.specs.OddNotes.{odd_notes}
use Rattle.import_notes.specs.OtherBranch.{AreAllPrintable, other_note}
use Rattle.treasury_reasons.specs.Reading.{line_of, lines_by}
use Rattle.treasury_reasons.specs.Uneven.{IsReadImport}

-- the branch has more accounts than it had before, or it is a dry run; otherwise no account is named
abbrev pub is_grown : HeldOfBranch → List Entry → Bool
is_grown before b = before.is_dry_run || nat_lt before.accounts (length (book_accounts b))

-- that of the accounts that are new, if they are named; all new transactions stand on these lines
abbrev pub accounts_if : Bool → Imported → List ℕ → List Said
accounts_if is it lines =
    if is then accounts_said it.source it.branch it.text lines (is_new_account it.held it.new) else []

-- that of a date of a posting, of the first new record that has one
abbrev pub dated_at : Imported → List ℕ → Option ℕ → List Said
dated_at it lines None = []
dated_at it lines (Some place) = date_note_at it.source it.text it.new lines place

abbrev pub dated_said : Imported → List ℕ → List Said
dated_said it lines = dated_at it lines (position_from is_dated 0 it.new)

-- those of far days, of odd amounts, of entries that may be held ones, edited, of accounts, of a date of a posting, and
-- of comments that are no marks; the text has these transactions and records
abbrev pub notes_with : List Style → Imported → Bool → List Located → List Record → List Said
notes_with styles it names file rows =
    let lines = flat_map (lines_by file rows) it.new in
    far_notes it (line_of file rows)
    ++ (odd_notes styles it.source it.text lines
    ++ (listed most_notes (edited_said it (line_of file rows)) (edited_of rows it.held it.new)
    ++ (accounts_if names it lines
    ++ (dated_said it lines
    ++ no_marks_said it.source (line_of file rows) it.new))))

-- accounts are named where some entry was imported before
abbrev pub notes_in : List Style → Imported → Bool → List Located → List Record → List Said
notes_in styles it grown file rows = notes_with styles it (grown && has_imported it.held) file rows

-- that of another branch before them; of an import that adds nothing it is said alone that its text has no transaction,
-- if so; the text has these transactions
abbrev pub import_notes : Federation → Imported → Bool → List Located → List Said
import_notes f it grown list =
    if length it.new == 0 then nothing_said it.source (has_transaction it.text)
    else other_note f it.branch it.new ++ notes_in f.styles it grown list (records_in_file f.styles list)

-- ---- of an import into the branch of that name, if it is there; this was held of it before
abbrev pub entered_import : Federation → List ℕ → List ℕ → List ℕ → HeldOfBranch → Imported
entered_import f name source text before =
    let records = records_of f name in
    imported source text name (take before.entries records) (drop before.entries records)

abbrev pub entered_notes : Federation → List ℕ → List ℕ → List ℕ → HeldOfBranch → List Located → List Said
entered_notes f name source text before list =
    if has_branch f name
    then import_notes f (entered_import f name source text before) (is_grown before (entries (records_of f name))) list
    else []

-- ---- of a dry run

-- the request is an import of these transactions into a branch that is there, and it would get these records, which can
-- be printed
pub record IsEnteredAhead (f : Federation) (request : Request) (name journal : List ℕ) (new : List Record)
    (list : List Located) : Type 0 where
  pub is : IsReadImport f.styles request name journal list
  pub there : has_branch f name ≡ true
  pub printable : AreAllPrintable f.styles new

-- all accounts are named that the branch would have more
abbrev pub import_ahead : Federation → List ℕ → List ℕ → List ℕ → List Record → List Located → List Said
import_ahead f name source text new list =
    import_notes f (imported source text name (records_of f name) new) true list
