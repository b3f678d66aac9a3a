use Rattle.std.proofs.Common.{◌≡◌, ◌++◌, take}
use Rattle.std.specs.Prelude.{codes}
use Rattle.std.specs.List.{flat_map}
use Rattle.json_text.specs.JsonText.{quoted}
use Rattle.treasury_reports.proofs.rows.strings_of.Given as goal

abbrev pub invariant-cells : goal.invariant-cells
invariant-cells l = l.strings.items ≡ flat_map (λ cell. codes "," ++ quoted cell.1.now) (take l.cell-index l.cells)
