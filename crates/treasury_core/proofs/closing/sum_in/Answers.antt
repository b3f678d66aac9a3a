use Rattle.std.proofs.Common.{◌+ℤ◌, arith, rules, FitsSigned, w64, to_z, of_z}
use Rattle.std.proofs.lemmas.Int.{ints, to_z-of_z}
use Rattle.journal_balance.specs.Plain.{written_leg}
use Rattle.treasury_core.proofs.ClosingSums.{abs_value}
use Rattle.treasury_core.proofs.ClosingLoops.{value_next, moved_next}
use Rattle.treasury_core.proofs.closing.sum_in.Goals as goal

pub overflow_add-sum : goal.overflow_add-sum
overflow_add-sum c =
    let x = c.posting-item.result in
    let fits : FitsSigned w64 c.amount_in-amount.result = search rules in
    let back = to_z-of_z w64 c.amount_in-amount.result fits in
    let next = moved_next c.args.unit c.args.postings.now c.loop-posting.posting-index x c.loop-posting-test.true
    c.posting-item.is in
    let one = abs_value c.args.unit (written_leg x.account x.amount) in
    let small = c.loop-posting.invariant.small in
    let is = c.amount_in-amount.ensures in
    omega (arith, ints, back, next, one, small, is)

pub loop-posting-preserved : goal.loop-posting-preserved
loop-posting-preserved c =
    let x = c.posting-item.result in
    let fits : FitsSigned w64 c.amount_in-amount.result = search rules in
    let back = to_z-of_z w64 c.amount_in-amount.result fits in
    let fine : FitsSigned w64 (to_z w64 c.loop-posting.sum-bits +ℤ to_z w64 (of_z w64 c.amount_in-amount.result)) =
    overflow_add-sum c in
    let sum = to_z-of_z w64 (to_z w64 c.loop-posting.sum-bits +ℤ to_z w64 (of_z w64 c.amount_in-amount.result)) fine in
    let more = value_next c.args.unit c.args.postings.now c.loop-posting.posting-index x c.loop-posting-test.true
    c.posting-item.is in
    let next = moved_next c.args.unit c.args.postings.now c.loop-posting.posting-index x c.loop-posting-test.true
    c.posting-item.is in
    let one = abs_value c.args.unit (written_leg x.account x.amount) in
    let sums = c.loop-posting.invariant.sums in
    let small = c.loop-posting.invariant.small in
    let is = c.amount_in-amount.ensures in
    record {
      sums = omega (arith, ints, back, sum, more, sums, is);
      small = omega (arith, ints, back, sum, next, one, small, is);
    }
