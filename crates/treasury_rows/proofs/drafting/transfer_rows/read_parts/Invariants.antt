use Rattle.std.proofs.Common.{ℕ}
use Rattle.treasury_state.specs.Rows.{part_row}
use Rattle.treasury_rows.specs.Drafted.{HaveShortDays}
use Rattle.treasury_rows.proofs.DraftLemmas.{IsFront}
use Rattle.treasury_rows.proofs.drafting.transfer_rows.read_parts.Given as goal

-- the parts so far are the front of any with these rows, and the rest has the rows that are left
abbrev pub invariant-part : goal.invariant-part
invariant-part l = IsFront (λ (k : ℕ). part_row l.id) HaveShortDays 0 l.rows l.row-index l.row-index l.list
