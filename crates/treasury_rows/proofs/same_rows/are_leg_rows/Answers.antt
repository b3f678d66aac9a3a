use Rattle.std.proofs.Common.{◌≡◌, ◌+◌, ◌<◌, ◌∙◌, length, sym, true, false, arith}
use Rattle.treasury_state.specs.Rows.{leg_row}
use Rattle.treasury_state.proofs.RestLemmas.{numbered}
use Rattle.treasury_rows.proofs.SameRowLemmas.{says_no, says_yes, walk_next, walk_stop, walk_end, other_length}
use Rattle.treasury_rows.proofs.same_rows.are_leg_rows.Goals as goal

pub returns-then-not-is_leg_row : goal.returns-then-not-is_leg_row
returns-then-not-is_leg_row c =
    let i = c.loop-i.i in
    let lt : i < length c.args.list.now = omega arith in
    says_no (numbered (leg_row c.args.branch c.args.entry) 1 c.args.legs.now ≡ c.args.list.now)
    (walk_stop (leg_row c.args.branch c.args.entry) 1 (c.loop-i.i + 1) i c.args.legs.now c.args.list.now
    c.index-legs-i.result c.index-list-i.result c.loop-i-test.true c.index-legs-i.is lt c.index-list-i.is
    (λ e. let k : true ≡ false = sym (c.is_leg_row.ensures.1 e) ∙ c.if-not-is_leg_row.true in cc) c.loop-i.invariant)

pub loop-i-preserved : goal.loop-i-preserved
loop-i-preserved c =
    let i = c.loop-i.i in
    let lt : i < length c.args.list.now = omega arith in
    walk_next (leg_row c.args.branch c.args.entry) 1 (c.loop-i.i + 1) i c.args.legs.now c.args.list.now
    c.index-legs-i.result c.index-list-i.result c.loop-i-test.true c.index-legs-i.is lt c.index-list-i.is
    (c.is_leg_row.ensures.0 c.if-not-is_leg_row.false) c.loop-i.invariant

pub returns : goal.returns
returns c =
    says_yes (numbered (leg_row c.args.branch c.args.entry) 1 c.args.legs.now ≡ c.args.list.now)
    (walk_end (leg_row c.args.branch c.args.entry) 1 (c.loop-i.i + 1) c.loop-i.i c.args.legs.now c.args.list.now
    (omega arith) (omega arith) c.loop-i.invariant)

pub returns-then-legs-list : goal.returns-then-legs-list
returns-then-legs-list c = says_no (numbered (leg_row c.args.branch c.args.entry) 1 c.args.legs.now ≡ c.args.list.now)
    (other_length (leg_row c.args.branch c.args.entry) 1 c.args.legs.now c.args.list.now (λ e. c.if-legs-list.true e))
