use Rattle.std.proofs.Common.{◌∙◌, ap, length}
use Rattle.treasury_state.specs.Federation.{Branch}
use Rattle.treasury_state.specs.Seen.{branch_of}
use Rattle.treasury_store.proofs.ListLemmas.{mapped_more}
use Rattle.treasury_store.proofs.numbers.records_each.Goals as goal

pub branch-preserved : goal.branch-preserved
branch-preserved g c =
    c.in_ok-push.ensures.items
    ∙ mapped_more branch_of (λ (b : Branch). length b.records) c.args.branches.now c.branch.branch-index
    c.branch-item.result c.branch.records.items _ c.branch-test.true c.branch-item.is c.branch.invariant
    (ap length c.items.ensures)
