use Rattle.treasury_core.proofs.ChoiceLemmas.{tested_inside}
use Rattle.treasury_core.proofs.choice.is_within.Goals as goal

pub returns : goal.returns
returns c = tested_inside c.args.top.now c.as_str.result.now c.args.account.now c.is_inside.result c.as_str.ensures
    c.is_inside.ensures
