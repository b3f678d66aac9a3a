use Rattle.std.proofs.Common.{◌≡◌, drop, length}
use Rattle.std.specs.Cmp.Lexicographic.{pointwise}
use Rattle.import_notes.specs.Edited.{same_amount}
use Rattle.import_notes.proofs.edited.are_same_amounts.Given as goal

-- the others are as many, and all depends on the rest
abbrev pub invariant-loop-place : goal.invariant-loop-place
invariant-loop-place l = record {
  long : length l.legs ≡ length l.others;
  rest : pointwise same_amount (drop l.place l.legs) (drop l.place l.others) ≡ pointwise same_amount l.legs l.others;
}
