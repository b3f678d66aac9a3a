-- Rows, lines and arrays worked out by hand, so that a wrong definition does not check.
use Rattle.std.specs.Prelude.{◌≡◌, pos, negsuc, List, [], ◌∷◌, None, codes, decimal, refl}
use Rattle.json_text.specs.JsonText.{escaped}
use Rattle.money_core.specs.declared.style.Style.{Style}
use Rattle.money_core.specs.AmountText.{printed_in}
use Rattle.journal_lines.specs.Date.{printed_date}
use Rattle.journal_format.specs.CanonicalText.{txn_text}
use Rattle.treasury_reports.specs.declared.rows.Layout.TheVariants.{Text, Json}
use Rattle.treasury_reports.specs.declared.rows.Column.TheVariants.{Amount, Number, Lock, Plain, From, End, Note}
use Rattle.treasury_reports.specs.Rows.{row_line, report_as}
use Rattle.treasury_reports.specs.BalanceReport.{amount_row}
use Rattle.treasury_reports.specs.RegisterReport.{register_cells, summed_behind, rows_since}
use Rattle.treasury_reports.specs.TransitReport.{transit_rows}
use Rattle.treasury_reports.specs.JournalReport.{journal_rows}
use Rattle.treasury_reports.specs.BranchesReport.{branches_rows}
use Rattle.treasury_reports.specs.TransfersReport.{transfer_cells, transfers_rows}
use Rattle.treasury_reports.proofs.WorkedReports.{unit, one, txn, day, federation}

-- ---- lines
-- an amount takes 20 characters; what is from somewhere has ` to ` behind it
pub way : row_line ((Plain, codes "2026-01-02") ∷ (Amount, codes "5.00 EUR") ∷ (From, codes "north")
    ∷ (End, codes "south") ∷ [])
    ≡ codes "2026-01-02              5.00 EUR  north to south\n"
way = refl

-- a lock takes 10, a number 6
pub no_lock : row_line ((Lock, []) ∷ (Number, codes "12") ∷ (End, codes "north") ∷ [])
    ≡ codes "                12  north\n"
no_lock = refl

pub lock : row_line ((Lock, codes "2025-12-31") ∷ (Number, codes "7") ∷ (End, codes "south") ∷ [])
    ≡ codes "2025-12-31       7  south\n"
lock = refl

-- a note has its two blanks only where it is not empty
pub with_note : row_line ((End, codes "a:b") ∷ (Note, codes "d e") ∷ []) ≡ codes "a:b  d e\n"
with_note = refl

pub without : row_line ((End, codes "a:b") ∷ (Note, []) ∷ []) ≡ codes "a:b\n"
without = refl

-- ---- reports
-- each row is a line, or an array of its texts
pub lines : report_as Text (((End, codes "a") ∷ []) ∷ ((End, codes "b") ∷ []) ∷ []) ≡ codes "a\nb\n"
lines = refl

pub arrays : report_as Json (((Amount, codes "1") ∷ (Note, []) ∷ []) ∷ ((End, codes "b") ∷ []) ∷ [])
    ≡ codes "[[\"1\",\"\"],[\"b\"]]"
unfolding escaped
arrays = refl

pub none : report_as Json [] ≡ codes "[]"
none = refl

-- ---- rows
-- a balance has amount and account; one of zero has no row
pub balance : (styles : List Style) → amount_row styles (codes "a:b") (unit 0) (pos 5)
    ≡ ((Amount, printed_in styles (unit 0) (pos 5)) ∷ (End, codes "a:b") ∷ []) ∷ []
balance styles = refl

pub no_balance : (styles : List Style) → amount_row styles (codes "a:b") (unit 0) (pos 0) ≡ []
no_balance styles = refl

-- day, number, amount, sum so far, account; the description is there as an empty text
pub second_leg : (styles : List Style)
    → rows_since styles None (summed_behind [] (one (pos 1) 1 0 (pos 5) ∷ one (pos 2) 2 0 (negsuc 1) ∷ []))
    ≡ ((Plain, printed_date (day (pos 1))) ∷ (Number, decimal 1) ∷ (Amount, printed_in styles (unit 0) (pos 5))
    ∷ (Amount, printed_in styles (unit 0) (pos 5)) ∷ (End, codes "a") ∷ (Note, []) ∷ [])
    ∷ ((Plain, printed_date (day (pos 2))) ∷ (Number, decimal 2) ∷ (Amount, printed_in styles (unit 0) (negsuc 1))
    ∷ (Amount, printed_in styles (unit 0) (pos 3)) ∷ (End, codes "a") ∷ (Note, []) ∷ []) ∷ []
unfolding register_cells
second_leg styles = refl

-- a transfer of 5 from north to south, received whole on the fourth day
pub in_transit : (style : Style) → transit_rows (federation style) (day (pos 3))
    ≡ ((Amount, printed_in (style ∷ []) (unit 0) (pos 5)) ∷ (From, codes "north") ∷ (End, codes "south") ∷ []) ∷ []
unfolding transit_rows
in_transit style = refl

pub transfer : (style : Style) → transfers_rows (federation style) (day (pos 3))
    ≡ ((Plain, printed_date (day (pos 3))) ∷ (Amount, printed_in (style ∷ []) (unit 0) (pos 5))
    ∷ (Amount, printed_in (style ∷ []) (unit 0) (pos 5)) ∷ (From, codes "north") ∷ (Plain, codes "south")
    ∷ (End, codes "t") ∷ []) ∷ []
unfolding transfer_cells transfers_rows
transfer style = refl

pub settled : (style : Style) → transfers_rows (federation style) (day (pos 4)) ≡ []
unfolding transfer_cells transfers_rows
settled style = refl

-- no lock is an empty text
pub branches : (style : Style) → branches_rows (federation style)
    ≡ ((Lock, []) ∷ (Number, decimal 0) ∷ (End, codes "south") ∷ [])
    ∷ ((Lock, []) ∷ (Number, decimal 1) ∷ (End, codes "north") ∷ []) ∷ []
branches style = refl

-- a text for each transaction, without the empty line
pub journal : (style : Style) → journal_rows (federation style) (codes "north")
    ≡ ((End, txn_text (style ∷ []) (txn (pos 1) [])) ∷ []) ∷ []
unfolding journal_rows
journal style = refl
