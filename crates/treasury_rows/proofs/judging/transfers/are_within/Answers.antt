use Rattle.std.proofs.Common.{◌≡◌, ◌+◌, ◌-ℤ◌, pos, drop, arith, rules, true, FitsSigned, w64, to_z, of_z}
use Rattle.std.specs.Prelude.{int_le}
use Rattle.std.proofs.lemmas.Int.{ints, to_z-of_z}
use Rattle.money_core.proofs.TestLemmas.{le_from_int_le}
use Rattle.treasury_state.specs.Transfer.{sum_of_parts}
use Rattle.treasury_state.proofs.PartLemmas.{IsPositive, sum_low, sum_more, all_left}
use Rattle.treasury_rows.proofs.SameRowLemmas.{says_no}
use Rattle.treasury_rows.proofs.judging.transfers.are_within.Goals as goal

pub returns-then-part-left : goal.returns-then-part-left
returns-then-part-left c =
    let ps = c.args.parts.now in
    let i = c.part.part-index in
    let p = c.part-item.result in
    let sum = sum_more ps i p c.part-test.true c.part-item.is in
    let each = all_left IsPositive ps i p c.part-test.true c.part-item.is c.part.invariant.each in
    let rest = sum_low (drop (i + 1) ps) each.1 in
    let less = c.part.invariant.less in
    let more = c.if-part-left.true in
    says_no (int_le (sum_of_parts ps) c.args.qty ≡ true)
    (λ e. let within = le_from_int_le (sum_of_parts ps) c.args.qty e in omega (arith, ints))

pub part-preserved : goal.part-preserved
part-preserved c =
    let ps = c.args.parts.now in
    let i = c.part.part-index in
    let p = c.part-item.result in
    let sum = sum_more ps i p c.part-test.true c.part-item.is in
    let each = all_left IsPositive ps i p c.part-test.true c.part-item.is c.part.invariant.each in
    let one = le_from_int_le (pos 1) p.qty each.0 in
    let same = to_z-of_z w64 p.qty (search rules) in
    let within = c.if-part-left.false in
    let held = c.part.auto.left-fits in
    let fits : FitsSigned w64 (to_z w64 c.part.left-bits -ℤ to_z w64 (of_z w64 p.qty)) = omega (arith, ints) in
    let now = to_z-of_z w64 (to_z w64 c.part.left-bits -ℤ to_z w64 (of_z w64 p.qty)) fits in
    let less = c.part.invariant.less in
    let high = c.part.invariant.high in
    record { less = omega (arith, ints); each = each.1; high = omega (arith, ints) }
