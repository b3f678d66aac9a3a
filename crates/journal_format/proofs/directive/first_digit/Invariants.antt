use Rattle.std.proofs.Common.{◌≡◌, ◌+◌, drop, false}
use Rattle.std.specs.Char.{is_ascii_digit}
use Rattle.journal_format.specs.PostingParts.{outside}
use Rattle.journal_format.proofs.directive.first_digit.Given as goal

abbrev pub invariant-loop-at : goal.invariant-loop-at
invariant-loop-at l = l.at + outside is_ascii_digit l.quoted (drop l.at l.text) ≡ outside is_ascii_digit false l.text
