use Rattle.std.proofs.Common.{◌≡◌, take}
use Rattle.std.specs.List.{flat_map}
use Rattle.treasury_reports.specs.Written.{pending_row_in}
use Rattle.treasury_reports.proofs.transfers.rows_of.Given as goal

abbrev pub invariant-transfers : goal.invariant-transfers
invariant-transfers l =
    l.rows.items ≡ flat_map (pending_row_in l.layout l.styles l.day) (take l.transfer-index l.transfers)
