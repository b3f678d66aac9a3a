use Rattle.treasury_reasons.proofs.FailureLemmas.{legs_test}
use Rattle.treasury_reasons.proofs.touching.are_same_legs.Goals as goal

pub returns : goal.returns
returns c = legs_test c.args.legs.now c.args.other.now c.is_same.result c.is_same.ensures
