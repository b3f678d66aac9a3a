-- A report is a list of rows, and a row a list of cells. As a text each row is a line, in JSON an array of strings (own
-- rule; docs/FORMATS.md, "Reports in JSON").
use Rattle.std.specs.Prelude.{ℕ, List, [], ◌∷◌, ◌++◌, map, codes}
use Rattle.std.specs.List.{flat_map}
use Rattle.json_text.specs.JsonText.{rows_text}
use Rattle.treasury_reports.specs.declared.rows.Layout.{Layout}
use Rattle.treasury_reports.specs.declared.rows.Layout.TheVariants as layout
use Rattle.treasury_reports.specs.declared.rows.Column.{Column}
use Rattle.treasury_reports.specs.declared.rows.Column.TheVariants.{Amount, Number, Lock, Plain, From, End, Note}
use Rattle.treasury_reports.specs.Columns.{right_aligned, left_aligned, amount_width, number_width, lock_width}

-- a cell: how it stands in a line, and its text, which is its string in JSON
abbrev pub Cell : Type 0
Cell = Column × List ℕ

-- a row: its cells
abbrev pub Row : Type 0
Row = List Cell

-- a note after two blanks; nothing where it is empty
abbrev pub spaced_note : List ℕ → List ℕ
spaced_note [] = []
spaced_note (b ∷ bs) = codes "  " ++ (b ∷ bs)

-- a text as it stands in its column
abbrev pub set_in : Column → List ℕ → List ℕ
set_in Amount text = right_aligned amount_width text
set_in Number text = right_aligned number_width text
set_in Lock text = left_aligned lock_width text
set_in Plain text = text
set_in From text = text
set_in End text = text
set_in Note text = spaced_note text

-- what stands after it
abbrev pub stands_after : Column → List ℕ
stands_after Amount = codes "  "
stands_after Number = codes "  "
stands_after Lock = codes "  "
stands_after Plain = codes "  "
stands_after From = codes " to "
stands_after End = []
stands_after Note = []

-- the line of a row
abbrev pub row_line : Row → List ℕ
row_line row = flat_map (λ (cell : Cell). set_in cell.0 cell.1 ++ stands_after cell.0) row ++ codes "\n"

-- its strings
abbrev pub strings_of : Row → List (List ℕ)
strings_of row = map (λ (cell : Cell). cell.1) row

-- a report: its lines, or the array of its rows
abbrev pub report_as : Layout → List Row → List ℕ
report_as layout.Text rows = flat_map row_line rows
report_as layout.Json rows = rows_text (map strings_of rows)
