use Rattle.std.proofs.Common.{◌≡◌, ◌-◌, length}
use Rattle.journal_balance.specs.Legs.{commodities, declared_commodities}
use Rattle.treasury_notes.specs.OpenYear.{has_balance}
use Rattle.treasury_notes.proofs.open_year.has_balance.Given as goal

-- one of those that are left decides
abbrev pub invariant-units : goal.invariant-units
invariant-units g l =
    has_balance (g.L.Ledger.book l.ledger) l.day (commodities l.number (length l.styles - l.number)) l.account
    ≡ has_balance (g.L.Ledger.book l.ledger) l.day (declared_commodities l.styles) l.account
