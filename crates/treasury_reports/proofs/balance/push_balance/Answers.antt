use Rattle.std.proofs.Common.{rules, w64}
use Rattle.std.proofs.lemmas.Int.{to_z-of_z}
use Rattle.treasury_reports.proofs.BalanceLemmas.{balance_is_declared}
use Rattle.treasury_reports.proofs.balance.push_balance.Goals as goal

pub push_amount-requires : goal.push_amount-requires
push_amount-requires g c =
    let back = to_z-of_z w64 c.balance-qty.result (search rules) in
    let declared = balance_is_declared c.args.styles.now (g.L.Ledger.book c.args.ledger.now) c.args.account.now
    c.args.unit c.args.day c.requires.known c.requires.room in
    rw (back, c.balance-qty.ensures) declared
