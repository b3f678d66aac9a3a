use Rattle.std.proofs.Common.{◌≡◌, ◌+◌, ◌++◌, drop, length}
use Rattle.journal_balance.specs.Legs.{legs_among, claims_among}
use Rattle.journal_balance.proofs.balancing.entered.Given as goal

abbrev pub invariant-postings : goal.invariant-postings
invariant-postings l = record {
  legs : l.legs ++ legs_among l.styles l.postings (drop l.posting-index l.postings)
      ≡ legs_among l.styles l.postings l.postings;
  claims : l.claims ++ claims_among l.styles l.postings (length l.legs + 1) (drop l.posting-index l.postings)
      ≡ claims_among l.styles l.postings 1 l.postings;
}
