use Rattle.std.proofs.Common.{◌≡◌, ◌++◌, ◌-◌, ◌≤◌, length}
use Rattle.std.specs.List.{flat_map}
use Rattle.treasury_reports.specs.BalanceReport.{first_units}
use Rattle.treasury_reports.specs.TransitReport.{transit_row}
use Rattle.treasury_reports.specs.Written.{rows_in}
use Rattle.treasury_reports.proofs.transit.push_way.Given as goal

abbrev pub invariant-units : goal.invariant-units
invariant-units g l = record {
  same : l.styles ≡ l.state.styles;
  few : length l.styles ≤ 16;
  declared : l.number ≤ length l.styles;
  rows : l.rows.items ≡ l.fn.rows.items
      ++ flat_map (λ unit. rows_in l.layout (transit_row l.state l.day l.from l.to unit)) (first_units l.number);
}

abbrev pub decreases-units : goal.decreases-units
decreases-units g l = length l.styles - l.number
