use Rattle.std.proofs.Common.{◌≡◌, take}
use Rattle.std.specs.Prelude.{filter}
use Rattle.treasury_reports.specs.TransitReport.{is_from}
use Rattle.treasury_reports.specs.Lent.{lent}
use Rattle.treasury_reports.proofs.transit.sent_from.Given as goal

abbrev pub invariant-transfers : goal.invariant-transfers
invariant-transfers l = lent l.sent.items ≡ filter (is_from l.from l.day) (take l.transfer-index l.transfers)
