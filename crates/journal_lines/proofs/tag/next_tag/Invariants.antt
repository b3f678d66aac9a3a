use Rattle.std.proofs.Common.{◌≡◌, length}
use Rattle.journal_lines.specs.Tag.{tags_of}
use Rattle.journal_lines.proofs.tag.next_tag.Given as goal

abbrev pub invariant-loop-part : goal.invariant-loop-part
invariant-loop-part l = tags_of l.rest ≡ tags_of l.comment

abbrev pub decreases-loop-part : goal.decreases-loop-part
decreases-loop-part l = length l.rest
