use Rattle.std.proofs.Common.{◌≡◌, arith, sym, false}
use Rattle.std.specs.Prelude.{int_le}
use Rattle.std.proofs.lemmas.Int.{ints}
use Rattle.treasury_state.proofs.WayLemmas.{open_before}
use Rattle.treasury_state.proofs.transit.open_of.Goals as goal

pub returns-then-day-transfer : goal.returns-then-day-transfer
returns-then-day-transfer c =
    let t = c.args.transfer.now in
    let h = c.if-day-transfer.true in
    let e : int_le t.day.0 c.args.day.0 ≡ false = grind (arith, ints) in
    sym (open_before t c.args.day c.requires e)
