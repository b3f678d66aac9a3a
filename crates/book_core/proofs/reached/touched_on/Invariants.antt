use Rattle.std.proofs.Common.{◌≡◌, drop}
use Rattle.std.specs.List.{list_any}
use Rattle.book_core.specs.Book.{posted_from}
use Rattle.book_core.specs.Claim.{asserted_claims}
use Rattle.book_core.proofs.TouchedLemmas.{touched_test}
use Rattle.book_core.proofs.reached.touched_on.Given as goal

abbrev pub invariant-loop-placed : goal.invariant-loop-placed
invariant-loop-placed l =
    list_any (touched_test l.leg (posted_from l.first l.new))
    (asserted_claims l.entry.day l.number l.entry.legs (drop l.placed-index l.entry.claims))
    ≡ list_any (touched_test l.leg (posted_from l.first l.new))
    (asserted_claims l.entry.day l.number l.entry.legs l.entry.claims)
