-- The branches, with their locks (own rule; docs/FORMATS.md, "Branches report").
use Rattle.std.specs.Prelude.{ℕ, if◌then◌else◌, List, length, codes, decimal, Option, Some, None, [], ◌∷◌, map}
use Rattle.money_core.specs.declared.day.Day.{Day}
use Rattle.journal_lines.specs.Date.{printed_date, is_in_calendar}
use Rattle.treasury_state.specs.Federation.{Branch, Federation}
use Rattle.treasury_reports.specs.declared.rows.Column.TheVariants.{Lock, Number, End}
use Rattle.treasury_reports.specs.Rows.{Row}

-- a lock day, an empty text where there is none; one that another program wrote may be in no calendar
abbrev pub lock_cell : Option Day → List ℕ
lock_cell None = []
lock_cell (Some day) = if is_in_calendar day then printed_date day else codes "?"

-- lock day, number of entries and name of a branch
abbrev pub branch_cells : Branch → Row
branch_cells b = (Lock, lock_cell b.locked) ∷ ((Number, decimal (length b.records)) ∷ ((End, b.name) ∷ []))

-- the report: the branches, in order of declaration
abbrev pub branches_rows : Federation → List Row
branches_rows f = map branch_cells f.branches
