use Rattle.std.proofs.Common.{◌≡◌, ◌++◌, take}
use Rattle.journal_format.specs.PrintedParts.{comments_part}
use Rattle.journal_format.proofs.printing.push_comments.Given as goal

abbrev pub invariant-comments : goal.invariant-comments
invariant-comments l = l.out.items ≡ l.fn.out.items ++ comments_part (take l.comment-index l.comments)
