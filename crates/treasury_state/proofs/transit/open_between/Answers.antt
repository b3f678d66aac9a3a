use Rattle.std.proofs.Common.{◌+◌, arith, drop, ◌+ℤ◌, FitsSigned, w64, to_z, of_z}
use Rattle.std.proofs.lemmas.Int.{ints}
use Rattle.treasury_state.specs.Transfer.{is_between, open_of}
use Rattle.treasury_state.proofs.WayLemmas.{open_sum_low, some_low, open_low}
use Rattle.treasury_state.proofs.OpenLemmas.{open_more, fair_drop, fair_item}
use Rattle.treasury_state.proofs.transit.open_between.Goals as goal

pub overflow_add-sum : goal.overflow_add-sum
overflow_add-sum c =
    let ts = c.args.transfers.now in
    let e = open_more ts c.args.from.now c.args.to.now c.args.unit c.args.day c.loop-transfer.transfer-index
    c.transfer-item.result c.loop-transfer-test.true c.transfer-item.is in
    let rest = open_sum_low (drop (c.loop-transfer.transfer-index + 1) ts) c.args.from.now c.args.to.now c.args.unit
    c.args.day (fair_drop ts (c.loop-transfer.transfer-index + 1) c.requires.fair) in
    let fair = fair_item ts c.loop-transfer.transfer-index c.transfer-item.result c.loop-transfer-test.true
    c.transfer-item.is c.requires.fair in
    let more = some_low (is_between c.args.from.now c.args.to.now c.args.unit c.transfer-item.result)
    (open_of c.transfer-item.result c.args.day) (open_low c.transfer-item.result c.args.day fair) in
    let i = c.loop-transfer.invariant.sums in
    let j = c.loop-transfer.invariant.low in
    let h = c.open_on_way-share.ensures in
    let s = c.requires.small in
    omega (arith, ints)

pub loop-transfer-preserved : goal.loop-transfer-preserved
loop-transfer-preserved c =
    let ts = c.args.transfers.now in
    let e = open_more ts c.args.from.now c.args.to.now c.args.unit c.args.day c.loop-transfer.transfer-index
    c.transfer-item.result c.loop-transfer-test.true c.transfer-item.is in
    let fair = fair_item ts c.loop-transfer.transfer-index c.transfer-item.result c.loop-transfer-test.true
    c.transfer-item.is c.requires.fair in
    let more = some_low (is_between c.args.from.now c.args.to.now c.args.unit c.transfer-item.result)
    (open_of c.transfer-item.result c.args.day) (open_low c.transfer-item.result c.args.day fair) in
    let fits : FitsSigned w64 (to_z w64 c.loop-transfer.sum-bits +ℤ to_z w64 (of_z w64 c.open_on_way-share.result)) =
    overflow_add-sum c in
    let i = c.loop-transfer.invariant.sums in
    let j = c.loop-transfer.invariant.low in
    let h = c.open_on_way-share.ensures in
    record { sums = omega (arith, ints); low = omega (arith, ints) }
