use Rattle.std.proofs.Common.{◌-◌, drop}
use Rattle.std.specs.Prelude.{◌↔◌}
use Rattle.treasury_state.specs.Good.{AreKeyed}
use Rattle.treasury_rows.proofs.judging.transfers.are_keyed.Given as goal

-- from the part before on
abbrev pub invariant-loop-i : goal.invariant-loop-i
invariant-loop-i l = AreKeyed (drop (l.i - 1) l.parts) ↔ AreKeyed l.parts
