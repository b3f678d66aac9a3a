-- The journal of a branch (own rule; docs/FORMATS.md, "Journal report").
use Rattle.std.specs.Prelude.{ℕ, List, [], ◌∷◌, map}
use Rattle.money_core.specs.declared.style.Style.{Style}
use Rattle.journal_format.specs.declared.txn.Txn.{Txn}
use Rattle.journal_format.specs.CanonicalText.{txn_text, journal_text}
use Rattle.treasury_state.specs.Federation.{Federation, records_of, txns_in}
use Rattle.treasury_reports.specs.declared.rows.Column.TheVariants.{End}
use Rattle.treasury_reports.specs.Rows.{Row}

-- the canonical texts of a branch's transactions, each with its mark and an empty line after it, in order of entry
unfoldable pub branch_journal : Federation → List ℕ → List ℕ
branch_journal f name = journal_text f.styles (txns_in (records_of f name))

-- a transaction alone: its canonical text with its mark, after which a line ends once more
abbrev pub txn_cells : List Style → Txn → Row
txn_cells styles t = (End, txn_text styles t) ∷ []

-- the same as rows: one for each transaction
unfoldable pub journal_rows : Federation → List ℕ → List Row
journal_rows f name = map (txn_cells f.styles) (txns_in (records_of f name))
