use Rattle.std.proofs.Common.{◌≡◌, drop}
use Rattle.std.specs.List.{list_any}
use Rattle.journal_balance.specs.Legs.{legs_among, is_large}
use Rattle.journal_balance.proofs.balancing.passes_limit.Given as goal

abbrev pub invariant-postings : goal.invariant-postings
invariant-postings l =
    list_any is_large (legs_among l.styles l.postings (drop l.posting-index l.postings))
    ≡ list_any is_large (legs_among l.styles l.postings l.postings)
