use Rattle.std.proofs.Common.{ap, Err, sym}
use Rattle.http_request.proofs.ReadLemmas.{no_method}
use Rattle.http_request.proofs.routes.find_route.Goals as goal

pub returns-in-Err-Invalid-clause-value : goal.returns-in-Err-Invalid-clause-value
returns-in-Err-Invalid-clause-value c =
    sym (no_method c.args.method.now c.args.path.now
    (c.in-Err-Invalid.ensures.invalid.0 (ap (λ e. Err e) c.in-Err-Invalid.field-0-is)))
