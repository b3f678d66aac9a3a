use Rattle.std.proofs.Common.{◌≡◌, ◌≤◌, ◌-◌, take, length}
use Rattle.std.specs.List.{flat_map}
use Rattle.money_core.specs.declared.style.Style.{Style}
use Rattle.treasury_reports.specs.CommoditiesReport.{sample_cells}
use Rattle.treasury_reports.specs.Written.{row_in}
use Rattle.treasury_reports.proofs.commodities.rows_of.Given as goal

abbrev pub invariant-units : goal.invariant-units
invariant-units l = record {
  few : length l.styles ≤ 16;
  declared : l.number ≤ length l.styles;
  rows : l.rows.items ≡ flat_map (λ (s : Style). row_in l.layout (sample_cells s)) (take l.number l.styles);
}

abbrev pub decreases-units : goal.decreases-units
decreases-units l = length l.styles - l.number
