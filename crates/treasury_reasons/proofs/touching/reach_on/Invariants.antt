use Rattle.std.proofs.Common.{◌≡◌, drop}
use Rattle.std.specs.Prelude.{find, nat_eq}
use Rattle.book_core.specs.declared.claim.Placed.{Placed}
use Rattle.treasury_reasons.proofs.touching.reach_on.Given as goal

-- the assertion is among those that are left
abbrev pub invariant-loop-placed : goal.invariant-loop-placed
invariant-loop-placed l =
    find (λ (x : Placed). nat_eq x.leg l.leg) (drop l.placed-index l.claims)
    ≡ find (λ (x : Placed). nat_eq x.leg l.leg) l.claims
