use Rattle.std.proofs.Common.{ℕ}
use Rattle.std.specs.Prelude.{Contains}
use Rattle.book_core.proofs.ClaimIndexLemmas.{FrontsListed}
use Rattle.book_core.proofs.claim_index.list_fronts.Given as goal

abbrev pub invariant-loop-i : goal.invariant-loop-i
invariant-loop-i l = record {
  kept : (n : ℕ) → Contains l.fn.rows.items n → Contains l.rows.items n;
  fronts : FrontsListed l.rows.items l.index l.account l.i;
}
