use Rattle.std.proofs.Common.{take}
use Rattle.book_core.specs.Claim.{asserted_claims}
use Rattle.book_core.specs.ClaimIndex.{KeepsFound, FindsEach}
use Rattle.book_core.proofs.claim_index.put_claims.Given as goal

abbrev pub invariant-loop-placed : goal.invariant-loop-placed
invariant-loop-placed l = record {
  kept : KeepsFound l.fn.index l.index;
  put : FindsEach l.index (asserted_claims l.entry.day l.number l.entry.legs (take l.placed-index l.placed-items));
}
