use Rattle.std.proofs.Common.{ap, length, List, ℕ}
use Rattle.book_core.proofs.AccountOrder.{accounts_are_one}
use Rattle.import_notes.proofs.import.count_of_accounts.Goals as goal

pub returns : goal.returns
returns g c =
    ap (λ (names : List (List ℕ)). length names)
    (accounts_are_one (g.L.Ledger.book c.args.branch.now.ledger) c.accounts-accounts.result.now
    c.accounts-accounts.ensures)
