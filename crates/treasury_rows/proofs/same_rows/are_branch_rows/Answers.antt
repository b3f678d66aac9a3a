use Rattle.std.proofs.Common.{◌≡◌, ◌<◌, ◌∙◌, length, sym, true, false, arith}
use Rattle.treasury_state.specs.Rows.{branch_row}
use Rattle.treasury_state.proofs.RestLemmas.{numbered}
use Rattle.treasury_rows.proofs.SameRowLemmas.{says_no, says_yes, walk_next, walk_stop, walk_end, other_length}
use Rattle.treasury_rows.proofs.same_rows.are_branch_rows.Goals as goal

pub returns-then-not-is_branch_row : goal.returns-then-not-is_branch_row
returns-then-not-is_branch_row c =
    let i = c.loop-i.i in
    let lt : i < length c.args.list.now = omega arith in
    says_no (numbered branch_row 0 c.args.branches.now ≡ c.args.list.now)
    (walk_stop branch_row 0 c.loop-i.i i c.args.branches.now c.args.list.now c.index-branches-i.result
    c.index-list-i.result c.loop-i-test.true c.index-branches-i.is lt c.index-list-i.is
    (λ e. let k : true ≡ false = sym (c.is_branch_row.ensures.1 e) ∙ c.if-not-is_branch_row.true in cc)
    c.loop-i.invariant)

pub loop-i-preserved : goal.loop-i-preserved
loop-i-preserved c =
    let i = c.loop-i.i in
    let lt : i < length c.args.list.now = omega arith in
    walk_next branch_row 0 c.loop-i.i i c.args.branches.now c.args.list.now c.index-branches-i.result
    c.index-list-i.result c.loop-i-test.true c.index-branches-i.is lt c.index-list-i.is
    (c.is_branch_row.ensures.0 c.if-not-is_branch_row.false) c.loop-i.invariant

pub returns : goal.returns
returns c =
    says_yes (numbered branch_row 0 c.args.branches.now ≡ c.args.list.now)
    (walk_end branch_row 0 c.loop-i.i c.loop-i.i c.args.branches.now c.args.list.now (omega arith) (omega arith)
    c.loop-i.invariant)

pub returns-then-branches-list : goal.returns-then-branches-list
returns-then-branches-list c = says_no (numbered branch_row 0 c.args.branches.now ≡ c.args.list.now)
    (other_length branch_row 0 c.args.branches.now c.args.list.now (λ e. c.if-branches-list.true e))
