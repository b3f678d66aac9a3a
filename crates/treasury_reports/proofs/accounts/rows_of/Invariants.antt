use Rattle.std.proofs.Common.{◌≡◌, take}
use Rattle.std.specs.List.{flat_map}
use Rattle.treasury_reports.specs.AccountsReport.{account_cells}
use Rattle.treasury_reports.specs.Written.{row_in}
use Rattle.treasury_reports.proofs.accounts.rows_of.Given as goal

abbrev pub invariant-accounts : goal.invariant-accounts
invariant-accounts l =
    l.rows.items ≡ flat_map (λ account. row_in l.layout (account_cells account)) (take l.account-index l.accounts)
