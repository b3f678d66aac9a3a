use Rattle.treasury_api.specs.Web.{turns_of_calls}
use Rattle.treasury_api.proofs.WebLemmas.{calls_run, refused_leaves}
use Rattle.treasury_api.proofs.BranchLemmas.{calls_own}
use Rattle.treasury_api.proofs.web.laws.calls_law.Goals as goal

pub returns-clause-headline : goal.returns-clause-headline
returns-clause-headline c start calls end good served =
    let run = calls_run start calls end served in
    (run.0, run.1, c.headline_law.ensures start.now (turns_of_calls start calls end served) good run.0)

pub returns-clause-refused : goal.returns-clause-refused
returns-clause-refused c = refused_leaves

pub returns-clause-own : goal.returns-clause-own
returns-clause-own c = calls_own
