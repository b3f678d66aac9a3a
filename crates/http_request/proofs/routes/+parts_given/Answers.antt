use Rattle.http_request.proofs.PieceLemmas.{one_more}
use Rattle.http_request.proofs.routes.+parts_given.Goals as goal

pub returns-in-Some-parts-clause-value : goal.returns-in-Some-parts-clause-value
returns-in-Some-parts-clause-value t c =
    rw c.in-Some-parts.is (one_more c.args.given c.args.keys.now c.in-Some-parts.field-0.now c.in-None.ensures.cases)
