use Rattle.std.proofs.Common.{◌≡◌, ◌+◌, length, take}
use Rattle.journal_format.specs.PrintedParts.{comments_part}
use Rattle.journal_format.proofs.printable.room_behind_remarks.Given as goal

abbrev pub invariant-comments : goal.invariant-comments
invariant-comments l = l.left + length (comments_part (take l.comment-index l.comments)) ≡ l.room
