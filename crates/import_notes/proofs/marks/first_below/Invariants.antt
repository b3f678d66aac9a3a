use Rattle.std.proofs.Common.{◌≡◌, drop, find}
use Rattle.import_notes.specs.Marks.{names_mark, comments_below}
use Rattle.import_notes.proofs.marks.first_below.Given as goal

-- it is among those of the rest
abbrev pub invariant-loop-posting : goal.invariant-loop-posting
invariant-loop-posting l =
    find names_mark (comments_below (drop l.posting-index l.postings)) ≡ find names_mark (comments_below l.postings)
