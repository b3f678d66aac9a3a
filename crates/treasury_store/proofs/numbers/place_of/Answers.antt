use Rattle.treasury_store.proofs.ListLemmas.{placed_some, placed_none, place_bound}
use Rattle.std.proofs.Common.{arith}
use Rattle.treasury_store.proofs.numbers.place_of.Goals as goal

pub returns-in-Some-clause-place : goal.returns-in-Some-clause-place
returns-in-Some-clause-place c = placed_some c.args.names.now c.args.name.now c.in-Some.place c.in-Some.ensures

pub returns-in-Some-clause-within : goal.returns-in-Some-clause-within
returns-in-Some-clause-within c =
    omega (
      arith,
      place_bound c.args.names.now c.args.name.now,
      placed_some c.args.names.now c.args.name.now c.in-Some.place c.in-Some.ensures,
    )

pub returns-in-None-clause-place : goal.returns-in-None-clause-place
returns-in-None-clause-place c = placed_none c.args.names.now c.args.name.now c.in-None.ensures
