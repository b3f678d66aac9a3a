use Rattle.std.proofs.Common.{◌-◌, drop}
use Rattle.std.specs.Prelude.{◌↔◌}
use Rattle.treasury_state.specs.Good.{AreAscending}
use Rattle.treasury_rows.proofs.judging.transfers.are_ascending.Given as goal

-- from the transfer before on
abbrev pub invariant-loop-i : goal.invariant-loop-i
invariant-loop-i l = AreAscending (drop (l.i - 1) l.transfers) ↔ AreAscending l.transfers
