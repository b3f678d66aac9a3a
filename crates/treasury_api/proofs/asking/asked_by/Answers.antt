use Rattle.std.proofs.Common.{List, Ok, Err, subst}
use Rattle.money_core.specs.declared.style.Style.{Style}
use Rattle.treasury_api.specs.Asked.{RequestAsks}
use Rattle.treasury_api.specs.Serving.{OrMemory}
use Rattle.treasury_api.proofs.SpelledLemmas.{spelled_ok, spelled_err, spelled_changed, ready_stays}
use Rattle.treasury_api.proofs.asking.asked_by.Goals as goal

pub returns-in-Ok-unless_changed-clause-asks : goal.returns-in-Ok-unless_changed-clause-asks
returns-in-Ok-unless_changed-clause-asks g c =
    spelled_ok c.args.state.now c.args.request.now c.in-Ok.asked c.in-Ok-unless_changed.asked c.or_dry_run.result
    (subst (λ (styles : List Style). OrMemory (RequestAsks styles c.args.request.now.request) (Ok c.in-Ok.asked))
    c.styles.ensures c.in-Ok.ensures.asks)
    c.in-Ok-unless_changed.ensures.asks c.or_dry_run.ensures

pub returns-in-Ok-unless_changed-clause-ready : goal.returns-in-Ok-unless_changed-clause-ready
returns-in-Ok-unless_changed-clause-ready g c =
    ready_stays c.args.state.now.styles c.args.request.now.terms.is_dry_run c.in-Ok-unless_changed.asked
    c.or_dry_run.result c.in-Ok-unless_changed.ensures.ready c.or_dry_run.ensures

pub returns-in-Err-unless_changed-clause-asks : goal.returns-in-Err-unless_changed-clause-asks
returns-in-Err-unless_changed-clause-asks g c =
    spelled_changed c.args.state.now c.args.request.now c.in-Ok.asked c.in-Err-unless_changed.refusal
    (subst (λ (styles : List Style). OrMemory (RequestAsks styles c.args.request.now.request) (Ok c.in-Ok.asked))
    c.styles.ensures c.in-Ok.ensures.asks)
    c.in-Err-unless_changed.ensures.asks

pub returns-in-Err-clause-asks : goal.returns-in-Err-clause-asks
returns-in-Err-clause-asks g c =
    spelled_err c.args.state.now c.args.request.now c.in-Err.refusal
    (subst (λ (styles : List Style). OrMemory (RequestAsks styles c.args.request.now.request) (Err c.in-Err.refusal))
    c.styles.ensures c.in-Err.ensures.asks)
