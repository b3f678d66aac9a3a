use Rattle.std.proofs.Common.{◌≡◌, drop}
use Rattle.journal_lines.specs.AccountName.{has_gap}
use Rattle.journal_lines.proofs.account.has_gap.Given as goal

abbrev pub invariant-loop-at : goal.invariant-loop-at
invariant-loop-at l = has_gap (drop l.at l.name) ≡ has_gap l.name
