use Rattle.std.proofs.Common.{◌≤◌, drop}
use Rattle.std.specs.Prelude.{◌↔◌, unsigned_abs}
use Rattle.std.specs.List.{AllByRecursion}
use Rattle.money_core.specs.Amount.{limit}
use Rattle.treasury_state.specs.declared.transfer.Transfer.{Transfer}
use Rattle.treasury_rows.proofs.judging.transfers.are_small.Given as goal

abbrev pub invariant-loop-transfer : goal.invariant-loop-transfer
invariant-loop-transfer l =
    AllByRecursion (λ (t : Transfer). unsigned_abs t.qty ≤ limit) (drop l.transfer-index l.transfers)
    ↔ AllByRecursion (λ (t : Transfer). unsigned_abs t.qty ≤ limit) l.transfers
