use Rattle.std.proofs.Common.{◌≡◌, ◌+◌, length, take}
use Rattle.journal_format.specs.PrintedParts.{postings_part}
use Rattle.journal_format.proofs.printable.room_behind_postings.Given as goal

abbrev pub invariant-postings : goal.invariant-postings
invariant-postings l = l.left + length (postings_part l.styles (take l.posting-index l.postings)) ≡ l.room
