use Rattle.std.proofs.Common.{◌∙◌}
use Rattle.treasury_state.specs.Federation.{Branch}
use Rattle.treasury_state.specs.Seen.{branch_of}
use Rattle.treasury_store.proofs.ListLemmas.{mapped_more}
use Rattle.treasury_store.proofs.numbers.names_of.Goals as goal

pub branch-preserved : goal.branch-preserved
branch-preserved g c =
    c.in_ok-push.ensures.ok
    ∙ mapped_more branch_of (λ (b : Branch). b.name) c.args.branches.now c.branch.branch-index c.branch-item.result
    c.branch.names c.in_ok-name.name c.branch-test.true c.branch-item.is c.branch.invariant
    c.in_ok-name.ensures.equal
