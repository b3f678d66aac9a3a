use Rattle.std.proofs.Common.{◌≡◌, ◌+◌, drop}
use Rattle.treasury_state.specs.Federation.{name_place}
use Rattle.treasury_rows.proofs.same_rows.place_of.Given as goal

-- the name is not among the branches so far
abbrev pub invariant-loop-i : goal.invariant-loop-i
invariant-loop-i l = l.i + name_place (drop l.i l.branches) l.name ≡ name_place l.branches l.name
