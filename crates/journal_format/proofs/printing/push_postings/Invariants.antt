use Rattle.std.proofs.Common.{◌≡◌, ◌++◌, take}
use Rattle.journal_format.specs.PrintedParts.{postings_part}
use Rattle.journal_format.proofs.printing.push_postings.Given as goal

abbrev pub invariant-postings : goal.invariant-postings
invariant-postings l = l.out.items ≡ l.fn.out.items ++ postings_part l.styles (take l.posting-index l.postings)
