use Rattle.std.proofs.Common.{◌≤◌, ◌∙◌, ℕ, List, length, arith, ap}
use Rattle.std.specs.List.{flat_map}
use Rattle.std.proofs.lemmas.List.{take_all}
use Rattle.book_core.specs.Accounts.{book_accounts}
use Rattle.book_core.proofs.AccountOrder.{accounts_are_one}
use Rattle.treasury_reports.specs.BalanceReport.{account_rows, book_rows}
use Rattle.treasury_reports.specs.Written.{rows_in}
use Rattle.treasury_reports.proofs.RowLemmas.{joined_rows}
use Rattle.treasury_reports.proofs.balance.rows_of.Goals as goal

pub returns-clause-ok : goal.returns-clause-ok
unfolding book_rows
returns-clause-ok g c =
    let book = g.L.Ledger.book c.args.ledger.now in
    let rows = account_rows c.args.styles.now book c.args.day in
    let names = c.accounts-account-items.result.now in
    let past : length names ≤ c.accounts.account-index = omega arith in
    c.accounts.invariant
    ∙ ap (flat_map (λ (account : List ℕ). rows_in c.args.layout (rows account)))
    (take_all c.accounts.account-index names past ∙ accounts_are_one book names c.accounts-account-items.ensures)
    ∙ joined_rows c.args.layout rows (book_accounts book)
