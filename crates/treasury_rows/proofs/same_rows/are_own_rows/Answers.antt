use Rattle.std.proofs.Common.{◌≡◌, ◌<◌, ◌∙◌, ℕ, length, sym, true, false, arith, map}
use Rattle.treasury_state.specs.Rows.{part_row}
use Rattle.treasury_state.proofs.TransferRowLemmas.{numbered_const}
use Rattle.treasury_rows.proofs.SameRowLemmas.{says_no, says_yes, walk_next, walk_stop, walk_end, other_length}
use Rattle.treasury_rows.proofs.same_rows.are_own_rows.Goals as goal

pub returns-then-not-is_part_row : goal.returns-then-not-is_part_row
returns-then-not-is_part_row c =
    let i = c.loop-i.i in
    let lt : i < length c.args.list.now = omega arith in
    says_no (map (part_row c.args.id.now) c.args.parts.now ≡ c.args.list.now)
    (λ e. walk_stop (λ (k : ℕ). (part_row c.args.id.now)) 0 i i c.args.parts.now c.args.list.now c.index-parts-i.result
    c.index-list-i.result c.loop-i-test.true c.index-parts-i.is lt c.index-list-i.is
    (λ e. let k : true ≡ false = sym (c.is_part_row.ensures.1 e) ∙ c.if-not-is_part_row.true in cc) c.loop-i.invariant
    (numbered_const (part_row c.args.id.now) 0 c.args.parts.now ∙ e))

pub loop-i-preserved : goal.loop-i-preserved
loop-i-preserved c =
    let i = c.loop-i.i in
    let lt : i < length c.args.list.now = omega arith in
    walk_next (λ (k : ℕ). (part_row c.args.id.now)) 0 i i c.args.parts.now c.args.list.now c.index-parts-i.result
    c.index-list-i.result c.loop-i-test.true c.index-parts-i.is lt c.index-list-i.is
    (c.is_part_row.ensures.0 c.if-not-is_part_row.false) c.loop-i.invariant

pub returns : goal.returns
returns c =
    says_yes (map (part_row c.args.id.now) c.args.parts.now ≡ c.args.list.now)
    (sym (numbered_const (part_row c.args.id.now) 0 c.args.parts.now)
    ∙ walk_end (λ (k : ℕ). (part_row c.args.id.now)) 0 c.loop-i.i c.loop-i.i c.args.parts.now c.args.list.now
    (omega arith) (omega arith) c.loop-i.invariant)

pub returns-then-parts-list : goal.returns-then-parts-list
returns-then-parts-list c =
    says_no (map (part_row c.args.id.now) c.args.parts.now ≡ c.args.list.now)
    (λ e. other_length (λ (k : ℕ). (part_row c.args.id.now)) 0 c.args.parts.now c.args.list.now
    (λ h. c.if-parts-list.true h) (numbered_const (part_row c.args.id.now) 0 c.args.parts.now ∙ e))
