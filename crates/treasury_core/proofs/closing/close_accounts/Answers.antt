use Rattle.std.proofs.Common.{◌≡◌, ◌++◌, ◌∙◌, ℕ, List, true, ap, sym}
use Rattle.std.specs.Prelude.{filter}
use Rattle.std.specs.List.{flat_map}
use Rattle.book_core.proofs.AccountOrder.{accounts_are_one}
use Rattle.journal_balance.specs.Legs.{declared_commodities}
use Rattle.treasury_core.specs.Choice.{is_selected}
use Rattle.treasury_core.specs.Closing.{closed_account}
use Rattle.treasury_core.proofs.ClosingLoops.{next_account, last_account}
use Rattle.treasury_core.proofs.closing.close_accounts.Goals as goal

pub accounts-preserved : goal.accounts-preserved
accounts-preserved g c =
    let names = c.accounts-account-items.result.now in
    let one = closed_account (g.L.Ledger.book c.args.ledger.now) c.args.day (declared_commodities c.args.styles.now) in
    let passes : is_selected c.args.choice.now.accounts c.account-item.result ≡ true =
    ap (is_selected c.args.choice.now.accounts) (sym c.as_str.ensures) ∙
    (sym c.is_selected.ensures ∙ c.if-not-is_selected.false) in
    let pushed : c.close_account.new.postings ≡ c.accounts.postings ++ one c.account-item.result =
    c.in_ok-close_account.ensures.ok ∙ ap (λ (name : List ℕ). c.accounts.postings ++ one name)
    c.as_str-in-accounts.ensures in
    next_account one (is_selected c.args.choice.now.accounts) c.accounts.postings c.close_account.new.postings
    (flat_map one (filter (is_selected c.args.choice.now.accounts) names)) names c.accounts.account-index
    c.account-item.result c.accounts-test.true
    c.account-item.is passes c.accounts.invariant pushed

pub returns-clause-value : goal.returns-clause-value
returns-clause-value g c =
    let book = g.L.Ledger.book c.args.ledger.now in
    let names = c.accounts-account-items.result.now in
    let one = closed_account book c.args.day (declared_commodities c.args.styles.now) in
    last_account one (is_selected c.args.choice.now.accounts) c.accounts.postings
    (flat_map one (filter (is_selected c.args.choice.now.accounts) names)) names c.accounts.account-index
    c.accounts-test.false c.accounts.invariant
    ∙ ap (λ (xs : List (List ℕ)). flat_map one (filter (is_selected c.args.choice.now.accounts) xs))
    (accounts_are_one book names c.accounts-account-items.ensures)
