use Rattle.std.proofs.Common.{ap}
use Rattle.treasury_state.specs.Federation.{Branch}
use Rattle.treasury_rows.proofs.TransferRowLemmas.{name_reading, name_missing}
use Rattle.treasury_rows.proofs.drafting.transfer_rows.name_at.Goals as goal

pub returns-in-Some : goal.returns-in-Some
returns-in-Some c =
    name_reading c.args.branches.now c.args.place c.in-Some.branch.now _ c.copy.result c.in-Some.ensures.lookup.0
    c.in-Some.ensures.lookup.1 (ap (λ (b : Branch). b.name) c.branch.view_is) c.copy.ensures.equal
    c.copy.ensures.memory

pub returns-in-None : goal.returns-in-None
returns-in-None c = name_missing c.args.branches.now c.args.place c.in-None.ensures.lookup.0
