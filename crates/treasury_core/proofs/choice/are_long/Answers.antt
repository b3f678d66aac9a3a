use Rattle.std.proofs.Common.{ap, arith, length}
use Rattle.treasury_core.proofs.ChoiceLemmas.{is_long, is_short, size_next, size_end}
use Rattle.treasury_core.proofs.choice.are_long.Goals as goal

pub returns-then-own-gt-MAX_LIST : goal.returns-then-own-gt-MAX_LIST
returns-then-own-gt-MAX_LIST c =
    let names = c.args.names.now in
    let own = ap length c.as_str-own.ensures in
    let next = size_next names c.names.name-index c.name-item.result c.names-test.true c.name-item.is in
    is_long names (omega (arith, own, next, c.names.invariant.sums, c.if-own-gt-MAX_LIST.true))

pub returns-then-size : goal.returns-then-size
returns-then-size c =
    let names = c.args.names.now in
    let own = ap length c.as_str-own.ensures in
    let next = size_next names c.names.name-index c.name-item.result c.names-test.true c.name-item.is in
    is_long names (omega (arith, own, next, c.names.invariant.sums, c.if-size.true))

pub returns : goal.returns
returns c =
    let names = c.args.names.now in
    let end = size_end names c.names.name-index c.names-test.false in
    is_short names (omega (arith, end, c.names.invariant.sums, c.names.invariant.few))
