use Rattle.std.specs.Option.{option_map}
use Rattle.import_notes.specs.OtherBranch.{holding_view}
use Rattle.import_notes.proofs.OtherBranchLemmas.{most_next}
use Rattle.import_notes.proofs.other_branch.find_holding.Goals as goal

pub loop-other-preserved : goal.loop-other-preserved
loop-other-preserved g c = λ printable.
    most_next c.args.state.now c.args.branch.now c.args.new.now c.branches-branches.result.now c.loop-other.other-index
    c.other-item.result (option_map holding_view c.loop-other.most) (option_map holding_view c.in-Ok.next)
    c.as_str.result.now _ c.loop-other-test.true c.other-item.is c.as_str.ensures (c.in-Ok.ensures printable)
    (c.loop-other.invariant printable)
