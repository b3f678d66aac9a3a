use Rattle.treasury_rows.proofs.PartRowLemmas.{IsTransferFront}
use Rattle.treasury_rows.proofs.drafting.transfer_rows.read_transfers.Given as goal

-- the transfers so far are the front of any with these rows, and the rest has the rows that are left
abbrev pub invariant-transfer : goal.invariant-transfer
invariant-transfer l = IsTransferFront l.branches l.rows l.fn.parts l.row-index l.list l.left
