use Rattle.std.proofs.Common.{◌≡◌, ◌<◌, ◌∙◌, ℕ, length, sym, true, false, arith, map}
use Rattle.treasury_state.specs.Rows.{transfer_row}
use Rattle.treasury_state.proofs.TransferRowLemmas.{numbered_const}
use Rattle.treasury_rows.proofs.SameRowLemmas.{says_no, says_yes, walk_next, walk_stop, walk_end, other_length}
use Rattle.treasury_rows.proofs.same_rows.are_transfer_rows.Goals as goal

pub returns-then-not-is_transfer_row : goal.returns-then-not-is_transfer_row
returns-then-not-is_transfer_row c =
    let i = c.loop-i.i in
    let lt : i < length c.args.list.now = omega arith in
    says_no (map (transfer_row c.args.branches.now) c.args.transfers.now ≡ c.args.list.now)
    (λ e. walk_stop (λ (k : ℕ). (transfer_row c.args.branches.now)) 0 i i c.args.transfers.now c.args.list.now
    c.index-transfers-i.result c.index-list-i.result c.loop-i-test.true c.index-transfers-i.is lt c.index-list-i.is
    (λ e. let k : true ≡ false = sym (c.is_transfer_row.ensures.1 e) ∙ c.if-not-is_transfer_row.true in cc)
    c.loop-i.invariant (numbered_const (transfer_row c.args.branches.now) 0 c.args.transfers.now ∙ e))

pub loop-i-preserved : goal.loop-i-preserved
loop-i-preserved c =
    let i = c.loop-i.i in
    let lt : i < length c.args.list.now = omega arith in
    walk_next (λ (k : ℕ). (transfer_row c.args.branches.now)) 0 i i c.args.transfers.now c.args.list.now
    c.index-transfers-i.result c.index-list-i.result c.loop-i-test.true c.index-transfers-i.is lt c.index-list-i.is
    (c.is_transfer_row.ensures.0 c.if-not-is_transfer_row.false) c.loop-i.invariant

pub returns : goal.returns
returns c =
    says_yes (map (transfer_row c.args.branches.now) c.args.transfers.now ≡ c.args.list.now)
    (sym (numbered_const (transfer_row c.args.branches.now) 0 c.args.transfers.now)
    ∙ walk_end (λ (k : ℕ). (transfer_row c.args.branches.now)) 0 c.loop-i.i c.loop-i.i c.args.transfers.now
    c.args.list.now (omega arith) (omega arith) c.loop-i.invariant)

pub returns-then-transfers-list : goal.returns-then-transfers-list
returns-then-transfers-list c =
    says_no (map (transfer_row c.args.branches.now) c.args.transfers.now ≡ c.args.list.now)
    (λ e. other_length (λ (k : ℕ). (transfer_row c.args.branches.now)) 0 c.args.transfers.now c.args.list.now
    (λ h. c.if-transfers-list.true h) (numbered_const (transfer_row c.args.branches.now) 0 c.args.transfers.now ∙ e))
