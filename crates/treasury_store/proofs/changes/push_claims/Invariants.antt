use Rattle.std.proofs.Common.{◌≡◌, ◌≤◌, ◌++◌, map, drop, length}
use Rattle.std.specs.List.{AllByRecursion}
use Rattle.book_core.specs.declared.claim.Placed.{Placed}
use Rattle.treasury_state.specs.Rows.{claim_row}
use Rattle.treasury_tables.specs.declared.change.Change.TheVariants.{Claim as ClaimChange}
use Rattle.treasury_store.proofs.changes.push_claims.Given as goal

-- so far, and with the rest they are all
abbrev pub invariant-claim : goal.invariant-claim
invariant-claim l = record {
  on_legs : AllByRecursion (λ (x : Placed). x.leg ≤ length l.legs) (drop l.claim-index l.claims);
  all : l.changes ++ map ClaimChange (map (claim_row l.branch l.nr) (drop l.claim-index l.claims))
      ≡ l.fn.changes ++ map ClaimChange (map (claim_row l.branch l.nr) l.claims);
}
