use Rattle.std.proofs.Common.{◌≡◌, take}
use Rattle.std.specs.List.{flat_map}
use Rattle.treasury_reports.specs.BalanceReport.{account_rows}
use Rattle.treasury_reports.specs.Written.{rows_in}
use Rattle.treasury_reports.proofs.balance.rows_of.Given as goal

abbrev pub invariant-accounts : goal.invariant-accounts
invariant-accounts g l = l.rows.items
    ≡ flat_map (λ account. rows_in l.layout (account_rows l.styles (g.L.Ledger.book l.ledger) l.day account))
    (take l.account-index l.account-items)
