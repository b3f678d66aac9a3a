use Rattle.std.proofs.Common.{◌≡◌, drop}
use Rattle.std.specs.Prelude.{find}
use Rattle.treasury_state.specs.Transfer.{is_transit}
use Rattle.treasury_reasons.proofs.at_fault.find_transit.Given as goal

-- the first one is among those that are left
abbrev pub invariant-loop-leg : goal.invariant-loop-leg
invariant-loop-leg l = find is_transit (drop l.leg-index l.legs) ≡ find is_transit l.legs
