-- The transfers of which something is open (own rule; docs/FORMATS.md, "Transfers report").
use Rattle.std.specs.Prelude.{◌≡◌, ℕ, Bool, not, List, filter, pos, [], ◌∷◌, map}
use Rattle.std.specs.Ordering.{int_eq}
use Rattle.money_core.specs.declared.style.Style.{Style}
use Rattle.money_core.specs.declared.unit.Unit.{Unit as Commodity}
use Rattle.money_core.specs.declared.day.Day.{Day}
use Rattle.money_core.specs.AmountText.{printed_in}
use Rattle.journal_lines.specs.Date.{printed_date}
use Rattle.treasury_state.specs.declared.transfer.Transfer.{Transfer}
use Rattle.treasury_state.specs.Federation.{Federation}
use Rattle.treasury_state.specs.Transfer.{open_of, open_amount}
use Rattle.treasury_reports.specs.declared.rows.Column.TheVariants.{Plain, Amount, From, End}
use Rattle.treasury_reports.specs.Rows.{Row}

-- something of the transfer is open through the day
abbrev pub is_pending : Day → Transfer → Bool
is_pending day t = not (int_eq (open_of t day) (pos 0))

-- the transfers of which something is, in byte order of their IDs
abbrev pub pending : Day → List Transfer → List Transfer
pending day ts = filter (is_pending day) ts

-- day, amount, open amount, from, to and ID of a transfer
unfoldable pub transfer_cells : List Style → Day → Transfer → Row
transfer_cells styles day t =
    (Plain, printed_date t.day) ∷ ((Amount, printed_in styles t.unit t.qty)
    ∷ ((Amount, printed_in styles t.unit (open_of t day))
    ∷ ((From, t.source) ∷ ((Plain, t.target) ∷ ((End, t.id) ∷ [])))))

-- the report
unfoldable pub transfers_rows : Federation → Day → List Row
transfers_rows f day = map (transfer_cells f.styles day) (pending day f.transfers)

-- what is open of those that are listed is, from each branch to each and in each commodity, what the transit report has
abbrev pub AddUpToTransit : List Transfer → Day → Type 0
AddUpToTransit ts day = (from to : List ℕ) (unit : Commodity)
    → open_amount (pending day ts) from to unit day ≡ open_amount ts from to unit day
