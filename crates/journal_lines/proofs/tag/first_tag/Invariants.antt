use Rattle.std.proofs.Common.{◌≡◌, true, drop}
use Rattle.journal_lines.specs.Tag.{first_tag}
use Rattle.journal_lines.proofs.tag.first_tag.Given as goal

abbrev pub invariant-loop-at : goal.invariant-loop-at
invariant-loop-at l = first_tag l.fresh (drop l.at l.part) ≡ first_tag true l.part
