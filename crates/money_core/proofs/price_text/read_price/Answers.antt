use Rattle.std.proofs.Common.{◌≡◌, ◌∙◌, sym, true}
use Rattle.money_core.specs.Price.{is_price}
use Rattle.money_core.proofs.PricePrint.{prices_bound, if_ok}
use Rattle.money_core.proofs.PriceGrammar.{price_reads_iff, price_form_iff, price_unknown_iff, price_cost_iff}
use Rattle.money_core.proofs.PriceGrammar.{one_price_cause}
use Rattle.money_core.proofs.price_text.read_price.Goals as goal

pub returns-clause-reads : goal.returns-clause-reads
returns-clause-reads c = λ p. price_reads_iff c.args.styles.now c.args.text.now c.price_of.result
    (rw c.as_bytes.ensures.value at c.price_of.ensures) p

pub returns-clause-form : goal.returns-clause-form
returns-clause-form c = price_form_iff c.args.styles.now c.args.text.now c.price_of.result
    (rw c.as_bytes.ensures.value at c.price_of.ensures)

pub returns-clause-unknown : goal.returns-clause-unknown
returns-clause-unknown c = price_unknown_iff c.args.styles.now c.args.text.now c.price_of.result
    (rw c.as_bytes.ensures.value at c.price_of.ensures)

pub returns-clause-cost : goal.returns-clause-cost
returns-clause-cost c = price_cost_iff c.args.styles.now c.args.text.now c.price_of.result
    (rw c.as_bytes.ensures.value at c.price_of.ensures)

pub returns-clause-causes : goal.returns-clause-causes
returns-clause-causes c = one_price_cause c.args.styles.now c.args.text.now c.price_of.result
    (rw c.as_bytes.ensures.value at c.price_of.ensures)

pub returns-clause-good : goal.returns-clause-good
returns-clause-good c =
    if_ok c.price_of.result (λ p. is_price c.args.styles.now p ≡ true)
    (λ p e. prices_bound c.args.styles.now c.args.text.now p
    (sym (rw c.as_bytes.ensures.value at c.price_of.ensures) ∙ e))
