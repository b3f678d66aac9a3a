use Rattle.std.proofs.Common.{◌≡◌, drop}
use Rattle.std.specs.List.{list_any}
use Rattle.journal_balance.specs.Legs.{declared_commodities}
use Rattle.treasury_notes.specs.OpenYear.{is_left_open}
use Rattle.treasury_notes.proofs.open_year.is_open.Given as goal

-- one of those that are left decides
abbrev pub invariant-accounts : goal.invariant-accounts
invariant-accounts g l =
    list_any (is_left_open (g.L.Ledger.book l.ledger) l.day (declared_commodities l.styles))
    (drop l.account-index l.account-items)
    ≡ list_any (is_left_open (g.L.Ledger.book l.ledger) l.day (declared_commodities l.styles)) l.account-items
