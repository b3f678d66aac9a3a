-- What a journal's text has: its transactions, and the records that a command makes of them (own rule; docs/RULES.md,
-- "Notes").
use Rattle.std.specs.Prelude.{◌≡◌, ℕ, List, Option, Some, None, slice_get, option_to_list, unwrap_or}
use Rattle.std.specs.Option.{option_map}
use Rattle.money_core.specs.declared.style.Style.{Style}
use Rattle.journal_format.specs.declared.txn.Located.{Located}
use Rattle.journal_format.specs.Pieces.{Reads}
use Rattle.treasury_state.specs.declared.record.Record.{Record}
use Rattle.treasury_state.specs.Index.{mark_place, IsIndexOf}
use Rattle.treasury_core.specs.Step.{records_in_file}
use Rattle.treasury_reasons.specs.declared.reading.Read.{Read}

-- these are the transactions of a text, the records that a command makes of them, and the first place of each mark
pub record IsRead (styles : List Style) (text : List ℕ) (read : Read) : Type 0 where
  pub file : Reads styles text read.file.items
  pub rows : read.rows ≡ records_in_file styles read.file.items
  pub first : IsIndexOf read.first read.rows

-- the line of the transaction at a place of a file
abbrev pub line_at : List Located → Option ℕ → Option ℕ
line_at file None = None
line_at file (Some place) = option_map (λ (x : Located). x.line) (slice_get file place)

-- the line of the first transaction that goes by a mark; these are the records of the file
abbrev pub line_by : List Located → List Record → List ℕ → Option ℕ
line_by file rows mark = line_at file (mark_place rows mark)

-- the line of the transaction of a record, 0 if there is none
abbrev pub line_of : List Located → List Record → Record → ℕ
line_of file rows r = unwrap_or (line_by file rows r.mark) 0

-- the lines of the transactions of records, in order
abbrev pub lines_by : List Located → List Record → Record → List ℕ
lines_by file rows r = option_to_list (line_by file rows r.mark)
