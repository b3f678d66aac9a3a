-- The accounts of a branch (own rule; docs/FORMATS.md, "Accounts report").
use Rattle.std.specs.Prelude.{ℕ, List, [], ◌∷◌, map}
use Rattle.book_core.specs.Accounts.{book_accounts}
use Rattle.treasury_state.specs.Federation.{Federation, book_of}
use Rattle.treasury_reports.specs.declared.rows.Column.TheVariants.{End}
use Rattle.treasury_reports.specs.Rows.{Row}

-- an account alone
abbrev pub account_cells : List ℕ → Row
account_cells account = (End, account) ∷ []

-- the report: the accounts of all legs of a branch's book, each once, in byte order
abbrev pub accounts_rows : Federation → List ℕ → List Row
accounts_rows f name = map account_cells (book_accounts (book_of f name))
