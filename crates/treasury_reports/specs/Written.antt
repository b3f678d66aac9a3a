-- Mirrors code: rows that are written one after another.
use Rattle.std.specs.Prelude.{ℕ, List, [], ◌++◌, if◌then◌else◌, codes, drop}
use Rattle.std.specs.List.{flat_map}
use denote.Ref.{Bor}
use Rattle.json_text.specs.JsonText.{strings_text}
use Rattle.money_core.specs.declared.style.Style.{Style}
use Rattle.money_core.specs.declared.day.Day.{Day}
use Rattle.treasury_state.specs.declared.transfer.Transfer.{Transfer}
use Rattle.treasury_reports.specs.declared.rows.Layout.{Layout}
use Rattle.treasury_reports.specs.declared.rows.Layout.TheVariants.{Text, Json}
use Rattle.treasury_reports.specs.declared.rows.Column.{Column}
use Rattle.treasury_reports.specs.Rows.{Cell, Row, row_line, strings_of}
use Rattle.treasury_reports.specs.TransfersReport.{is_pending, transfer_cells}

-- the cell that is lent
abbrev pub shown : Column × Bor (List ℕ) → Cell
shown cell = (cell.0, cell.1.now)

-- a row in JSON, after a comma
abbrev pub json_row : Row → List ℕ
json_row row = codes "," ++ strings_text (strings_of row)

-- a row that is written
abbrev pub row_in : Layout → Row → List ℕ
row_in Text row = row_line row
row_in Json row = json_row row

-- rows that are
abbrev pub rows_in : Layout → List Row → List ℕ
rows_in layout rows = flat_map (row_in layout) rows

-- a report whose rows are
abbrev pub written_in : Layout → List ℕ → List ℕ
written_in Text rows = rows
written_in Json rows = codes "[" ++ drop 1 rows ++ codes "]"

-- the row of a transfer of which something is open; nothing for another
abbrev pub pending_row_in : Layout → List Style → Day → Transfer → List ℕ
pending_row_in layout styles day t = if is_pending day t then row_in layout (transfer_cells styles day t) else []
