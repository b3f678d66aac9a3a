use Rattle.std.proofs.Common.{ℕ, ◌<◌, ◌≤◌, get_or}
use Rattle.treasury_files.proofs.shrinking.are_kept.Given as goal

-- no number so far is smaller
abbrev pub invariant-branch : goal.invariant-branch
invariant-branch l = (place : ℕ) → place < l.branch → get_or l.before place 0 ≤ get_or l.after place 0
