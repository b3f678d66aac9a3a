use Rattle.std.proofs.Common.{◌≡◌, take}
use Rattle.std.specs.Prelude.{filter}
use Rattle.std.specs.Str.{bytes_eq}
use Rattle.treasury_state.specs.declared.transfer.Transfer.{Transfer}
use Rattle.treasury_reports.specs.Lent.{lent}
use Rattle.treasury_reports.proofs.transit.sent_to.Given as goal

abbrev pub invariant-transfers : goal.invariant-transfers
invariant-transfers l =
    lent l.part.items ≡ filter (λ (t : Transfer). bytes_eq t.target l.to) (lent (take l.transfer-index l.sent))
