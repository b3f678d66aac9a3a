use Rattle.treasury_rows.proofs.SameRowLemmas.{PartsLeft}
use Rattle.treasury_rows.proofs.same_rows.are_part_rows.Given as goal

-- the rows so far are those of the transfers so far: what is open is whether the rest has the rows that are left
abbrev pub invariant-transfer : goal.invariant-transfer
invariant-transfer l = PartsLeft l.transfer-index l.transfers l.fn.list l.left
