use Rattle.std.proofs.Common.{rules, w64}
use Rattle.std.proofs.lemmas.Int.{to_z-of_z}
use Rattle.treasury_reports.proofs.OpenLemmas.{open_is_declared}
use Rattle.treasury_reports.proofs.transit.push_open.Goals as goal

pub amount_cell-requires : goal.amount_cell-requires
amount_cell-requires g c =
    let back = to_z-of_z w64 c.open_amount-qty.result (search rules) in
    rw (c.styles.ensures, back, c.open_amount-qty.ensures.value)
    (open_is_declared c.args.state.now c.args.from.now c.args.to.now c.args.unit c.args.day c.is_good.ensures
    c.requires)
