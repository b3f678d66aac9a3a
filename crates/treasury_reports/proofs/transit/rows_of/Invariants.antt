use Rattle.std.proofs.Common.{◌≡◌, take}
use Rattle.std.specs.List.{flat_map}
use Rattle.treasury_reports.specs.TransitReport.{rows_from, branch_names}
use Rattle.treasury_reports.specs.Written.{rows_in}
use Rattle.treasury_reports.proofs.transit.rows_of.Given as goal

abbrev pub invariant-sources : goal.invariant-sources
invariant-sources g l = l.rows.items
    ≡ flat_map (λ from. rows_in l.layout (rows_from l.state l.day from)) (take l.from-index (branch_names l.state))
