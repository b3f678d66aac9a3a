use Rattle.std.proofs.Common.{◌≡◌, ◌++◌, ◌-◌, ◌≤◌, length}
use Rattle.std.specs.List.{flat_map}
use Rattle.treasury_reports.specs.BalanceReport.{first_units, balance_row}
use Rattle.treasury_reports.specs.Written.{rows_in}
use Rattle.treasury_reports.proofs.balance.push_account.Given as goal

abbrev pub invariant-units : goal.invariant-units
invariant-units g l = record {
  few : length l.styles ≤ 16;
  declared : l.number ≤ length l.styles;
  rows : l.rows.items ≡ l.fn.rows.items
      ++ flat_map (λ unit. rows_in l.layout (balance_row l.styles (g.L.Ledger.book l.ledger) l.day l.account unit))
      (first_units l.number);
}

abbrev pub decreases-units : goal.decreases-units
decreases-units g l = length l.styles - l.number
