use Rattle.std.proofs.Common.{◌≡◌, ◌++◌, take}
use Rattle.std.specs.List.{flat_map}
use Rattle.treasury_reports.specs.Rows.{set_in, stands_after}
use Rattle.treasury_reports.proofs.rows.push_line.Given as goal

abbrev pub invariant-cells : goal.invariant-cells
invariant-cells l = l.out.items
    ≡ l.fn.out.items ++ flat_map (λ cell. set_in cell.0 cell.1.now ++ stands_after cell.0) (take l.cell-index l.cells)
