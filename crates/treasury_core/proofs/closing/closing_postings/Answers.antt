use Rattle.std.proofs.Common.{◌≤◌, ◌++◌, ◌-ℤ◌, pos, List, ℕ, None, length, ◌∙◌, ap, sym, subst}
use Rattle.money_core.specs.declared.unit.Unit.{Unit as Commodity}
use Rattle.book_core.specs.Balance.{value, moved}
use Rattle.book_core.specs.GoodBook.{most_turnover}
use Rattle.journal_format.specs.declared.posting.Posting.{Posting}
use Rattle.journal_balance.specs.Legs.{declared_commodities}
use Rattle.journal_balance.specs.Plain.{written_legs}
use Rattle.treasury_core.specs.Choice.{is_selected, target_in}
use Rattle.treasury_core.specs.Closing.{selected}
use Rattle.treasury_core.proofs.ClosingSums.{closed_small, spread}
use Rattle.treasury_core.proofs.ClosingLemmas.{selected_apart}
use Rattle.treasury_core.proofs.ClosingPrinted.{closing_joined}
use Rattle.treasury_core.proofs.closing.closing_postings.Goals as goal

pub gaining_account-requires : goal.gaining_account-requires
gaining_account-requires g c =
    λ unit.
    let book = g.L.Ledger.book c.args.ledger.now in
    subst (λ (ps : List Posting). moved unit (written_legs ps) ≤ most_turnover)
    (sym (c.items.ensures ∙ c.in_ok-closed.ensures.value))
    (closed_small book c.args.day unit (length c.args.styles.now)
    (selected (is_selected c.args.choice.now.accounts) book)
    (selected_apart (is_selected c.args.choice.now.accounts) book) c.requires.within.small)

pub returns-clause-value : goal.returns-clause-value
returns-clause-value g c =
    let book = g.L.Ledger.book c.args.ledger.now in
    let closed = c.in_ok-closed.closed in
    let gains = c.in_ok-gaining.ensures.value
    ∙ (ap (λ (name : List ℕ). spread name (λ (u : Commodity). pos 0 -ℤ value u (written_legs c.items.result.now))
    (λ (u : Commodity). None) (declared_commodities c.args.styles.now)) c.target_of.ensures
    ∙ ap (λ (ps : List Posting). spread (target_in c.args.choice.now.into)
    (λ (u : Commodity). pos 0 -ℤ value u (written_legs ps)) (λ (u : Commodity). None)
    (declared_commodities c.args.styles.now))
    c.items.ensures) in
    let joined = closing_joined book c.args.day (target_in c.args.choice.now.into) (length c.args.styles.now)
    (selected (is_selected c.args.choice.now.accounts) book) closed c.in_ok-gaining.gaining
    c.in_ok-closed.ensures.value gains in
    c.from_vec.ensures
    ∙ (c.in_ok-append.ensures.items
    ∙ (ap (λ (ps : List Posting). ps ++ c.into_vec-rest.result.items) c.into_vec-postings.ensures
    ∙ (ap (λ (ps : List Posting). closed ++ ps) c.into_vec-rest.ensures
    ∙ joined)))
