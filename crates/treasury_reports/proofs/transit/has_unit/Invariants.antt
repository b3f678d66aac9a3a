use Rattle.std.proofs.Common.{◌≡◌, drop, nat_eq}
use Rattle.std.specs.List.{list_any}
use Rattle.treasury_state.specs.declared.transfer.Transfer.{Transfer}
use Rattle.treasury_reports.specs.Lent.{lent}
use Rattle.treasury_reports.proofs.transit.has_unit.Given as goal

abbrev pub invariant-transfers : goal.invariant-transfers
invariant-transfers l = list_any (λ (t : Transfer). nat_eq t.unit.0 l.unit.0) (lent (drop l.transfer-index l.sent))
    ≡ list_any (λ (t : Transfer). nat_eq t.unit.0 l.unit.0) (lent l.sent)
