use Rattle.std.proofs.Common.{take}
use Rattle.treasury_state.specs.Index.{IsIndexOf}
use Rattle.treasury_reasons.proofs.reading.places_of.Given as goal

-- the places so far are those of the records so far
abbrev pub invariant-loop-place : goal.invariant-loop-place
invariant-loop-place l = IsIndexOf l.places (take l.place l.rows)
