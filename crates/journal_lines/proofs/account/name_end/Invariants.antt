use Rattle.std.proofs.Common.{◌≡◌, ◌+◌, drop}
use Rattle.journal_lines.specs.AccountName.{name_end}
use Rattle.journal_lines.proofs.account.name_end.Given as goal

abbrev pub invariant-loop-at : goal.invariant-loop-at
invariant-loop-at l = l.at + name_end (drop l.at l.text) ≡ name_end l.text
