use Rattle.std.proofs.Common.{◌≡◌, ◌++◌, drop}
use Rattle.journal_hints.specs.ExactProduct.{inexact_said}
use Rattle.journal_hints.proofs.exact.say_exact.Given as goal

-- what is said of the first one among those that are left
abbrev pub invariant-loop-posting : goal.invariant-loop-posting
invariant-loop-posting l =
    l.out.items ++ inexact_said l.styles (drop l.posting-index l.postings)
    ≡ l.fn.out.items ++ inexact_said l.styles l.postings
