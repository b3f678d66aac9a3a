use Rattle.std.proofs.Common.{◌≡◌, ◌++◌, take}
use Rattle.std.specs.List.{flat_map}
use Rattle.treasury_reports.specs.TransitReport.{way_rows}
use Rattle.treasury_reports.specs.Written.{rows_in}
use Rattle.treasury_reports.proofs.transit.push_from.Given as goal

abbrev pub invariant-targets : goal.invariant-targets
invariant-targets g l = l.rows.items ≡ l.fn.rows.items
    ++ flat_map (λ to. rows_in l.layout (way_rows l.state l.day l.from to)) (take l.to-index l.names)
