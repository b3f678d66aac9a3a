use Rattle.std.proofs.Common.{◌∙◌, List, ℕ, ap}
use Rattle.std.specs.List.{flat_map}
use Rattle.book_core.specs.declared.entry.Entry.{Entry}
use Rattle.book_core.specs.Accounts.{book_accounts}
use Rattle.book_core.proofs.AccountOrder.{accounts_are_one}
use Rattle.treasury_state.specs.Federation.{book_of}
use Rattle.treasury_reports.specs.AccountsReport.{account_cells, accounts_rows}
use Rattle.treasury_reports.specs.Written.{row_in}
use Rattle.treasury_reports.proofs.RowLemmas.{appended_rows, mapped_rows}
use Rattle.treasury_reports.proofs.accounts.accounts_report.Goals as goal

pub returns-in-Ok-clause-ok : goal.returns-in-Ok-clause-ok
returns-in-Ok-clause-ok g c =
    let f = c.args.state.now in
    let name = c.args.branch.now in
    let layout = c.args.layout in
    let names = accounts_are_one (g.L.Ledger.book c.in-Some.ledger.now) c.accounts.result.now c.accounts.ensures in
    let listed = names ∙ ap (λ (es : List Entry). book_accounts es) c.in-Some.ensures.found.1 in
    appended_rows layout c.push_written.result _ _ _ (accounts_rows f name)
    (c.in-Ok.ensures.ok
    ∙ ap (flat_map (λ (account : List ℕ). row_in layout (account_cells account))) listed
    ∙ mapped_rows layout account_cells (book_accounts (book_of f name)))
    c.push_written.ensures.ok
