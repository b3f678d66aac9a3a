use Rattle.std.proofs.Common.{drop}
use Rattle.std.specs.Prelude.{◌↔◌}
use Rattle.std.specs.List.{AllByRecursion}
use Rattle.treasury_state.specs.Good.{IsGoodTransfer}
use Rattle.treasury_rows.proofs.judging.transfers.are_good_transfers.Given as goal

abbrev pub invariant-loop-transfer : goal.invariant-loop-transfer
invariant-loop-transfer l = AllByRecursion (IsGoodTransfer l.branches) (drop l.transfer-index l.transfers)
    ↔ AllByRecursion (IsGoodTransfer l.branches) l.transfers
