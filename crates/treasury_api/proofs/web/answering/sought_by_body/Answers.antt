use Rattle.std.proofs.Common.{◌∙◌, ap, subst, sym}
use Rattle.http_request.specs.declared.call.Call.TheVariants.{Command as CalledCommand}
use Rattle.treasury_requests.specs.Request.{spelled}
use Rattle.treasury_api.specs.WebServing.{IsSought, SeeksDays}
use Rattle.treasury_api.proofs.BranchLemmas.{sought_body, sought_days}
use Rattle.treasury_api.proofs.web.answering.sought_by_body.Goals as goal

pub returns-in-Ok-clause-sought : goal.returns-in-Ok-clause-sought
returns-in-Ok-clause-sought c =
    let read = ap spelled (sym c.items.ensures) ∙ c.in-Ok.ensures.ok in
    subst (IsSought (CalledCommand c.args.branch c.args.body)) (sym c.sought_of.ensures)
    (sought_body c.args.branch c.args.body c.in-Ok.request read)

pub returns-in-Ok-clause-days : goal.returns-in-Ok-clause-days
returns-in-Ok-clause-days c =
    subst SeeksDays (sym c.sought_of.ensures) (sought_days c.args.branch c.in-Ok.request c.in-Ok.ensures.days)
