use Rattle.std.proofs.Common.{◌<◌, ◌^◌, length, arith}
use Rattle.treasury_store.proofs.PushLemmas.{on_leg}
use Rattle.treasury_store.proofs.changes.push_claims.Goals as goal

pub claim_row-requires-clause-leg : goal.claim_row-requires-clause-leg
claim_row-requires-clause-leg c =
    let few : length c.args.legs.now < 2 ^ 63 = omega arith in
    on_leg (length c.args.legs.now) c.args.claims.now c.claim.claim-index _ c.claim-test.true c.claim.invariant.on_legs
    few
