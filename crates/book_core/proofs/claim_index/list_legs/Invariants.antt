use Rattle.std.proofs.Common.{ℕ, take}
use Rattle.std.specs.Prelude.{Contains}
use Rattle.book_core.specs.ClaimIndex.{AreListed}
use Rattle.book_core.proofs.claim_index.list_legs.Given as goal

abbrev pub invariant-loop-leg : goal.invariant-loop-leg
invariant-loop-leg l = record {
  kept : (n : ℕ) → Contains l.fn.rows.items n → Contains l.rows.items n;
  listed : AreListed l.reach l.rows.items l.index (take l.leg-index l.legs);
}
