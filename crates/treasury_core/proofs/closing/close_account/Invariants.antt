use Rattle.std.proofs.Common.{◌≡◌, ◌++◌, ◌-◌, length}
use Rattle.journal_balance.specs.Legs.{commodities, declared_commodities}
use Rattle.treasury_core.specs.Closing.{closed_account}
use Rattle.treasury_core.proofs.closing.close_account.Given as goal

-- the postings so far, and those of the rest of the commodities, are those of all after the old ones
abbrev pub invariant-units : goal.invariant-units
invariant-units g l =
    l.postings ++ closed_account (g.L.Ledger.book l.ledger) l.day (commodities l.number (length l.styles - l.number))
    l.account
    ≡ l.fn.postings ++ closed_account (g.L.Ledger.book l.ledger) l.day (declared_commodities l.styles) l.account
