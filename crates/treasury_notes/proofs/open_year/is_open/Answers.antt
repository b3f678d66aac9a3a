use Rattle.std.proofs.Common.{◌≡◌, ◌+◌, ◌∙◌, ap, sym, true, List, ℕ, drop, drop_of_length-le}
use Rattle.std.specs.List.{list_any}
use Rattle.money_core.proofs.ListLemmas.{drop_at}
use Rattle.book_core.proofs.AccountOrder.{accounts_are_one}
use Rattle.journal_balance.specs.Legs.{declared_commodities}
use Rattle.treasury_notes.specs.OpenYear.{is_left_open, is_year_open}
use Rattle.treasury_notes.proofs.OpenYearLemmas.{passed_by_one}
use Rattle.treasury_notes.proofs.open_year.is_open.Goals as goal

pub returns-then-is_left_open : goal.returns-then-is_left_open
unfolding is_year_open
returns-then-is_left_open g c =
    let book = g.L.Ledger.book c.args.ledger.now in
    let test = is_left_open book c.args.day (declared_commodities c.args.styles.now) in
    let names = c.accounts-account-items.result.now in
    let i = c.accounts.account-index in
    let name = c.account-item.result in
    let passes : test name ≡ true = sym c.is_left_open.ensures ∙ c.if-is_left_open.true in
    passed_by_one test name (drop i names) (drop (i + 1) names) (list_any test names)
    (drop_at names i name c.accounts-test.true c.account-item.is) passes c.accounts.invariant
    ∙ ap (λ (xs : List (List ℕ)). list_any test xs) (accounts_are_one book names c.accounts-account-items.ensures)

pub returns : goal.returns
unfolding is_year_open
returns g c =
    let book = g.L.Ledger.book c.args.ledger.now in
    let test = is_left_open book c.args.day (declared_commodities c.args.styles.now) in
    let names = c.accounts-account-items.result.now in
    let i = c.accounts.account-index in
    sym (ap (λ (xs : List (List ℕ)). list_any test xs) (drop_of_length-le names c.accounts-test.false))
    ∙ c.accounts.invariant
    ∙ ap (λ (xs : List (List ℕ)). list_any test xs) (accounts_are_one book names c.accounts-account-items.ensures)
