use Rattle.std.proofs.Common.{◌≤◌, ◌<◌, ◌++◌, ◌-ℤ◌, pos, Some, length, arith}
use Rattle.money_core.specs.declared.unit.Unit.{Unit as Commodity}
use Rattle.journal_balance.specs.Legs.{declared_commodities}
use Rattle.treasury_core.specs.Closing.{through, zero_claim, nonzero_posting, closed_account}
use Rattle.treasury_core.proofs.ClosingLoops.{next_unit, last_unit}
use Rattle.treasury_core.proofs.closing.close_account.Goals as goal

pub units-preserved : goal.units-preserved
units-preserved g c =
    let book = g.L.Ledger.book c.args.ledger.now in
    let account = c.args.account.now in
    let known : c.units.number < length c.args.styles.now =
    omega (arith, c.units-test.true, c.len-number-end.ensures.count) in
    next_unit (λ (unit : Commodity).
    nonzero_posting account unit (pos 0 -ℤ through book c.args.day account unit) (Some (zero_claim unit)))
    c.units.postings c.push_closed.new.postings
    (c.args.postings.now ++ closed_account book c.args.day (declared_commodities c.args.styles.now) account)
    c.units.number (length c.args.styles.now) known c.units.invariant c.in-Ok.ensures.ok

pub returns-clause-ok : goal.returns-clause-ok
returns-clause-ok g c =
    let book = g.L.Ledger.book c.args.ledger.now in
    let account = c.args.account.now in
    let past : length c.args.styles.now ≤ c.units.number =
    omega (arith, c.units-test.false, c.len-number-end.ensures.count) in
    last_unit (λ (unit : Commodity).
    nonzero_posting account unit (pos 0 -ℤ through book c.args.day account unit) (Some (zero_claim unit)))
    c.units.postings
    (c.args.postings.now ++ closed_account book c.args.day (declared_commodities c.args.styles.now) account)
    c.units.number (length c.args.styles.now) past c.units.invariant
