use Rattle.std.proofs.Common.{sym}
use Rattle.treasury_state.proofs.FindLemmas.{branch_at_Some, branch_at_None}
use Rattle.treasury_core.proofs.decision.lock_of.Goals as goal

pub returns-in-None : goal.returns-in-None
returns-in-None g c = sym (branch_at_None _ c.args.name.now c.in-None.ensures.found).lock

pub returns-in-Some : goal.returns-in-Some
returns-in-Some g c = sym (branch_at_Some _ c.args.name.now _ c.in-Some.ensures.found).lock
