use Rattle.std.proofs.Common.{◌≡◌, ◌∙◌, sym, true, false, arith}
use Rattle.std.proofs.lemmas.Option.{get_or_from_slice_get, slice_get_within}
use Rattle.treasury_state.specs.Rows.{unit_row, unit_rows}
use Rattle.treasury_rows.proofs.SameRowLemmas.{says_no, says_yes, walk_next, walk_stop, walk_end, other_length}
use Rattle.treasury_rows.proofs.SameRowLemmas.{none_past}
use Rattle.treasury_rows.proofs.same_rows.are_unit_rows.Goals as goal

pub returns-then-not-is_unit_row : goal.returns-then-not-is_unit_row
returns-then-not-is_unit_row c =
    let i = c.loop-i.i in
    let styles = c.args.styles.now in
    let x = c.in-Some.style.now in
    says_no (unit_rows styles ≡ c.args.list.now)
    (walk_stop unit_row 0 i i styles c.args.list.now x c.index-list-i.result
    (slice_get_within styles i x (sym c.in-Some.ensures))
    (sym (get_or_from_slice_get styles i x x (sym c.in-Some.ensures))) c.loop-i-test.true c.index-list-i.is
    (λ e. let k : true ≡ false = sym (c.is_unit_row.ensures.1 e) ∙ c.if-not-is_unit_row.true in cc) c.loop-i.invariant)

pub loop-i-preserved : goal.loop-i-preserved
loop-i-preserved c =
    let i = c.loop-i.i in
    let styles = c.args.styles.now in
    let x = c.in-Some.style.now in
    walk_next unit_row 0 i i styles c.args.list.now x c.index-list-i.result
    (slice_get_within styles i x (sym c.in-Some.ensures))
    (sym (get_or_from_slice_get styles i x x (sym c.in-Some.ensures))) c.loop-i-test.true c.index-list-i.is
    (c.is_unit_row.ensures.0 c.if-not-is_unit_row.false) c.loop-i.invariant

pub returns-in-None : goal.returns-in-None
returns-in-None c = absurd (let h = none_past c.args.styles.now c.loop-i.i (sym c.in-None.ensures) in omega arith)

pub returns : goal.returns
returns c =
    says_yes (unit_rows c.args.styles.now ≡ c.args.list.now)
    (walk_end unit_row 0 c.loop-i.i c.loop-i.i c.args.styles.now c.args.list.now (omega arith) (omega arith)
    c.loop-i.invariant)

pub returns-then-len-list : goal.returns-then-len-list
returns-then-len-list c = says_no (unit_rows c.args.styles.now ≡ c.args.list.now)
    (other_length unit_row 0 c.args.styles.now c.args.list.now (λ e. c.if-len-list.true (c.len.ensures.count ∙ e)))
