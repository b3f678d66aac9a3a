use Rattle.std.proofs.Common.{◌≡◌, ◌∙◌, true, false, sym, arith}
use Rattle.treasury_rows.proofs.SameRowLemmas.{place_here, place_next, place_end}
use Rattle.treasury_rows.proofs.same_rows.place_of.Goals as goal

pub returns-then-has_name : goal.returns-then-has_name
returns-then-has_name c = place_here c.args.branches.now c.args.name.now c.loop-i.i _ c.index-branches-i.result
    c.loop-i-test.true c.index-branches-i.is (c.has_name.ensures.0 c.if-has_name.true) c.loop-i.invariant

pub loop-i-preserved : goal.loop-i-preserved
loop-i-preserved c =
    place_next c.args.branches.now c.args.name.now c.loop-i.i _ c.index-branches-i.result c.loop-i-test.true
    c.index-branches-i.is (λ e. let k : true ≡ false = sym (c.has_name.ensures.1 e) ∙ c.if-has_name.false in cc)
    c.loop-i.invariant

pub returns : goal.returns
returns c =
    place_end c.args.branches.now c.args.name.now c.loop-i.i _ c.loop-i-test.false (omega arith) c.loop-i.invariant
