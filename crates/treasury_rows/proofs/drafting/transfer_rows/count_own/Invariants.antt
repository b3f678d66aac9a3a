use Rattle.std.proofs.Common.{◌≡◌, take}
use Rattle.std.specs.List.{AllByRecursion}
use Rattle.treasury_state.proofs.PartRowLemmas.{IsOf}
use Rattle.treasury_rows.proofs.drafting.transfer_rows.count_own.Given as goal

-- the rows so far are of the transfer
abbrev pub invariant-part : goal.invariant-part
invariant-part l = record { count : l.count ≡ l.row-index; own : AllByRecursion (IsOf l.id) (take l.row-index l.rows) }
