use Rattle.std.proofs.Common.{◌≡◌, drop}
use Rattle.std.specs.Prelude.{◌↔◌}
use Rattle.treasury_rows.proofs.judging.same.are_same_postings.Given as goal

abbrev pub invariant-loop-i : goal.invariant-loop-i
invariant-loop-i l = (drop l.i l.postings ≡ drop l.i l.others) ↔ (l.postings ≡ l.others)
