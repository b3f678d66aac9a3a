-- What is on its way between branches (own rule; docs/FORMATS.md, "Transit report").
use Rattle.std.specs.Prelude.{ℕ, nat_eq, Bool, ◌&&◌, if◌then◌else◌, List, [], ◌∷◌, length, int_le}
use Rattle.std.specs.List.{list_any, flat_map}
use Rattle.std.specs.Str.{bytes_eq}
use Rattle.money_core.specs.declared.unit.Unit.{Unit as Commodity}
use Rattle.money_core.specs.declared.day.Day.{Day}
use Rattle.money_core.specs.AmountText.{printed_in}
use Rattle.book_core.specs.Accounts.{ordered_names}
use Rattle.treasury_state.specs.declared.transfer.Transfer.{Transfer}
use Rattle.treasury_state.specs.Federation.{Federation, names_of}
use Rattle.treasury_state.specs.Transfer.{open_amount}
use Rattle.treasury_reports.specs.declared.rows.Layout.TheVariants.{Text}
use Rattle.treasury_reports.specs.declared.rows.Column.TheVariants.{Amount, From, End}
use Rattle.treasury_reports.specs.Rows.{Row, report_as}
use Rattle.treasury_reports.specs.BalanceReport.{first_units}

-- the transfer was dispatched from that branch on or before the day
abbrev pub is_from : List ℕ → Day → Transfer → Bool
is_from from day t = int_le t.day.0 day.0 && bytes_eq t.source from

-- and goes to that one
abbrev pub is_way : List ℕ → List ℕ → Day → Transfer → Bool
is_way from to day t = is_from from day t && bytes_eq t.target to

-- one of the transfers was, in the commodity
abbrev pub has_way : List Transfer → List ℕ → List ℕ → Commodity → Day → Bool
has_way ts from to unit day = list_any (λ (t : Transfer). is_way from to day t && nat_eq t.unit.0 unit.0) ts

-- the names of the branches in byte order
abbrev pub branch_names : Federation → List (List ℕ)
branch_names f = ordered_names (names_of f.branches)

-- the open amount between two branches in a commodity, and where it goes
abbrev pub open_cells : Federation → Day → List ℕ → List ℕ → Commodity → Row
open_cells f day from to unit =
    (Amount, printed_in f.styles unit (open_amount f.transfers from to unit day)) ∷ ((From, from) ∷ ((End, to) ∷ []))

-- its row, where a transfer was dispatched so on or before the day
abbrev pub transit_row : Federation → Day → List ℕ → List ℕ → Commodity → List Row
transit_row f day from to unit =
    if has_way f.transfers from to unit day then open_cells f day from to unit ∷ [] else []

-- the rows from one branch to another, commodities in declared order
abbrev pub way_rows : Federation → Day → List ℕ → List ℕ → List Row
way_rows f day from to = flat_map (transit_row f day from to) (first_units (length f.styles))

-- the rows from one branch
abbrev pub rows_from : Federation → Day → List ℕ → List Row
rows_from f day from = flat_map (way_rows f day from) (branch_names f)

-- the report: from each branch to each, in byte order of their names
unfoldable pub transit_rows : Federation → Day → List Row
transit_rows f day = flat_map (rows_from f day) (branch_names f)

-- its lines
abbrev pub transit_text : Federation → Day → List ℕ
transit_text f day = report_as Text (transit_rows f day)
