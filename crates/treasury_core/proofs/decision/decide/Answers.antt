use Rattle.treasury_core.proofs.DecideLemmas.{decided_joined, decided_good}
use Rattle.treasury_core.proofs.decision.decide.Goals as goal

pub returns-clause-joined : goal.returns-clause-joined
returns-clause-joined g c = decided_joined c.args.state.now c.args.command.now _ c.decided.ensures

pub returns-clause-good : goal.returns-clause-good
returns-clause-good g c =
    decided_good c.args.state.now c.args.command.now _ c.is_good.ensures c.requires c.decided.ensures
