use Rattle.std.proofs.Common.{◌≡◌, take}
use Rattle.std.specs.List.{sum_by}
use Rattle.treasury_files.specs.Counts.{count_of_parts}
use Rattle.treasury_files.proofs.shrinking.receipts_in.Given as goal

-- the receipts of the transfers so far
abbrev pub invariant-transfer : goal.invariant-transfer
invariant-transfer l = l.receipts ≡ sum_by count_of_parts (take l.transfer-index l.transfers)
