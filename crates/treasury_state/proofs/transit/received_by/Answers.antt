use Rattle.std.proofs.Common.{◌≡◌, ◌+◌, ◌+ℤ◌, drop, arith, rules, ap, FitsSigned, w64, to_z, of_z, List}
use Rattle.std.specs.Prelude.{int_le}
use Rattle.std.proofs.lemmas.Int.{ints, to_z-of_z}
use Rattle.money_core.proofs.ListLemmas.{drop_at}
use Rattle.treasury_state.specs.declared.transfer.Part.{Part}
use Rattle.treasury_state.specs.Transfer.{received_by}
use Rattle.treasury_state.proofs.PartLemmas.{IsPositive, sum_low, sum_more, all_left, share_low, share_high}
use Rattle.treasury_state.proofs.transit.received_by.Goals as goal

pub overflow_add-sum : goal.overflow_add-sum
overflow_add-sum c =
    let ps = c.args.parts.now in
    let i = c.part.part-index in
    let p = c.part-item.result in
    let sum = sum_more ps i p c.part-test.true c.part-item.is in
    let each = all_left IsPositive ps i p c.part-test.true c.part-item.is c.part.invariant.each in
    let low = share_low (int_le p.day.0 c.args.day.0) p.qty each.0 in
    let high = share_high (int_le p.day.0 c.args.day.0) p.qty each.0 in
    let rest = sum_low (drop (i + 1) ps) each.1 in
    let share = c.part_by-share.ensures in
    let h = c.part.invariant.high in
    let l = c.part.invariant.low in
    let small = c.requires.small in
    omega (arith, ints)

pub part-preserved : goal.part-preserved
part-preserved c =
    let ps = c.args.parts.now in
    let i = c.part.part-index in
    let p = c.part-item.result in
    let sum = sum_more ps i p c.part-test.true c.part-item.is in
    let by = ap (λ (xs : List Part). received_by xs c.args.day) (drop_at ps i p c.part-test.true c.part-item.is) in
    let each = all_left IsPositive ps i p c.part-test.true c.part-item.is c.part.invariant.each in
    let low = share_low (int_le p.day.0 c.args.day.0) p.qty each.0 in
    let high = share_high (int_le p.day.0 c.args.day.0) p.qty each.0 in
    let share = c.part_by-share.ensures in
    let fits : FitsSigned w64 (to_z w64 c.part.sum-bits +ℤ to_z w64 (of_z w64 c.part_by-share.result)) =
    overflow_add-sum c in
    let w = c.part.invariant.whole in
    let h = c.part.invariant.high in
    let l = c.part.invariant.low in
    record { whole = omega (arith, ints); high = omega (arith, ints); low = omega (arith, ints); each = each.1 }
