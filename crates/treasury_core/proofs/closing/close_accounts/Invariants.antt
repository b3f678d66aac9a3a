use Rattle.std.proofs.Common.{◌≡◌, ◌++◌, drop}
use Rattle.std.specs.Prelude.{filter}
use Rattle.std.specs.List.{flat_map}
use Rattle.journal_balance.specs.Legs.{declared_commodities}
use Rattle.treasury_core.specs.Choice.{is_selected}
use Rattle.treasury_core.specs.Closing.{closed_account}
use Rattle.treasury_core.proofs.closing.close_accounts.Given as goal

-- the postings so far, and those of the rest of the accounts, are those of all
abbrev pub invariant-accounts : goal.invariant-accounts
invariant-accounts g l =
    l.postings ++ flat_map (closed_account (g.L.Ledger.book l.ledger) l.day (declared_commodities l.styles))
    (filter (is_selected l.choice.accounts) (drop l.account-index l.account-items))
    ≡ flat_map (closed_account (g.L.Ledger.book l.ledger) l.day (declared_commodities l.styles))
    (filter (is_selected l.choice.accounts) l.account-items)
