use Rattle.treasury_api.proofs.ServeLemmas.{line_of}
use Rattle.treasury_api.proofs.running.refuse.Goals as goal

pub returns : goal.returns
returns g c = line_of c.args.treasury.now c.args.refusal c.refuse_by.result.cause _ c.refuse_by.ensures
