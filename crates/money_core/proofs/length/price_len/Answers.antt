use Rattle.std.proofs.Common.{◌∙◌, ap, sym, length, Option}
use Rattle.money_core.specs.declared.style.Style.{Style}
use Rattle.money_core.specs.PriceText.{printed_cost, printed_price}
use Rattle.money_core.proofs.StyleLemmas.{StyleFacts, style_facts}
use Rattle.money_core.proofs.length.price_len.Goals as goal
use Rattle.money_core.proofs.length.price_len.Goals.{After-unwrap-style}

facts : (c : After-unwrap-style) → StyleFacts c.unwrap-style.result.now
facts c = style_facts c.args.styles.now c.unit.result.0 c.unwrap-style.result.now c.are_styles.ensures
    (sym (rw c.unwrap-style.ensures at c.style.ensures))

pub cost_len-requires-clause-symbol : goal.cost_len-requires-clause-symbol
cost_len-requires-clause-symbol c = (facts c).symbolic

pub cost_len-requires-clause-few : goal.cost_len-requires-clause-few
cost_len-requires-clause-few c = (facts c).few

pub returns-clause-value : goal.returns-clause-value
unfolding printed_price
returns-clause-value c =
    let at = sym (rw (c.unwrap-style.ensures, c.unit.ensures) at c.style.ensures) in
    c.cost_len.ensures.value ∙ ap (λ (o : Option Style). length (printed_cost o c.args.price.now)) (sym at)
