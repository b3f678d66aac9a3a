use Rattle.std.proofs.Common.{◌≡◌, drop, length}
use Rattle.std.specs.Cmp.Lexicographic.{pointwise}
use Rattle.import_notes.specs.Edited.{same_account}
use Rattle.import_notes.proofs.edited.are_same_accounts.Given as goal

-- the others are as many, and all depends on the rest
abbrev pub invariant-loop-place : goal.invariant-loop-place
invariant-loop-place l = record {
  long : length l.postings ≡ length l.others;
  rest : pointwise same_account (drop l.place l.postings) (drop l.place l.others)
      ≡ pointwise same_account l.postings l.others;
}
