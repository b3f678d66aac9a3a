use Rattle.std.proofs.Common.{◌∙◌, ◌++◌, List, ap}
use Rattle.std.proofs.lemmas.Option.{MatchOption-at_some}
use Rattle.treasury_state.specs.declared.record.Record.{Record}
use Rattle.treasury_state.specs.Federation.{Branch}
use Rattle.treasury_rows.specs.Drafted.{record_rows_from}
use Rattle.treasury_rows.proofs.SameRowLemmas.{whole_start, whole_next}
use Rattle.treasury_rows.proofs.same_rows.are_record_rows.Goals as goal

pub branch-init : goal.branch-init
branch-init g c = whole_start g.T.RecordRow.rows c.args.branches.now c.args.list.now

pub branch-preserved : goal.branch-preserved
branch-preserved g c =
    let rows = g.T.RecordRow.rows in
    let split = MatchOption-at_some _ _ c.in-Some.rest c.in-Some.is c.behind_records.ensures in
    whole_next rows c.branch.i c.branch.i c.args.branches.now c.args.list.now c.branch.left.now c.in-Some.rest.now
    c.index-branches-i.result c.branch-test.true c.index-branches-i.is
    (split ∙ ap (λ (rs : List Record). record_rows_from (rows c.branch.i) 1 rs ++ c.in-Some.rest.now) c.items.ensures
    ∙ ap (λ (b : Branch). record_rows_from (rows c.branch.i) 1 b.records ++ c.in-Some.rest.now)
    c.branch-in-branch.view_is) c.branch.invariant
