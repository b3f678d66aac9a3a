use Rattle.std.proofs.Common.{List, length, arith, ap, refl}
use Rattle.book_core.specs.declared.leg.Leg.{Leg}
use Rattle.book_core.specs.Balance.{moved}
use Rattle.book_core.proofs.OwnLegLemmas.{sums_whole}
use Rattle.book_core.proofs.own_legs.OwnLegs.of.Goals as goal

pub add_leg-requires-clause-few : goal.add_leg-requires-clause-few
add_leg-requires-clause-few c =
    omega (arith, c.requires.few, ap (λ (xs : List Leg). length xs) c.items-legs.ensures)

pub add_leg-requires-clause-room : goal.add_leg-requires-clause-room
add_leg-requires-clause-room c u = omega (arith, c.requires.room u, ap (moved u) c.items-legs.ensures)

pub returns-clause-legs : goal.returns-clause-legs
returns-clause-legs c = record {
  day = refl;
  count = ap (λ (xs : List Leg). length xs) c.items-legs.ensures;
  few = omega (arith, c.requires.few, ap (λ (xs : List Leg). length xs) c.items-legs.ensures);
  sums = sums_whole c.args.entry.now.day c.legs.rows c.items-legs.result.now c.args.entry.now.legs c.legs.at
      c.items-legs.ensures c.legs-test.false c.legs.invariant;
}
