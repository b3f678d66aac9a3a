use Rattle.std.proofs.Common.{◌≡◌}
use Rattle.std.specs.Prelude.{IfSome}
use Rattle.book_core.specs.declared.own_legs.OwnLegs.{OwnLegs}
use Rattle.book_core.specs.Claim.{counted}
use Rattle.book_core.specs.OwnLegs.{AreOwnIn}
use Rattle.book_core.proofs.ExamineLemmas.{HoldBefore}
use Rattle.book_core.proofs.examine.first_by_sums.Given as goal

abbrev pub invariant-places : goal.invariant-places
invariant-places l = record {
  held : HoldBefore l.book l.places l.i;
  count : l.count.claims ≡ counted l.fn.count.claims l.i;
  own : IfSome l.own (λ (o : OwnLegs). AreOwnIn o l.book);
}
