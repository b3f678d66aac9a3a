use Rattle.std.proofs.Common.{◌∙◌, arith, sym, w64, rules}
use Rattle.std.proofs.lemmas.Bool.{ne_eqb}
use Rattle.std.proofs.lemmas.Int.{to_z-of_z}
use Rattle.money_core.proofs.CostLemmas.{each_cost}
use Rattle.money_core.proofs.PriceFacts.{price_facts}
use Rattle.money_core.proofs.StyleLemmas.{style_facts}
use Rattle.money_core.proofs.cost.cost_of.Goals as goal

pub overflow_add-own : goal.overflow_add-own
overflow_add-own c =
    let own = c.unwrap-own.result.now in
    let style = c.unwrap-style.result.now in
    let at = sym (rw c.unwrap-own.ensures at c.style.ensures) in
    let its = sym (rw (c.unwrap-style.ensures, c.unit-2.ensures) at c.style-2.ensures) in
    let few = (style_facts c.args.styles.now c.args.unit.0 own c.are_styles.ensures at).few in
    let facts = price_facts c.args.styles.now c.args.price.now style c.in-Each.unit c.in-Each.digits c.in-Each.decimals
    c.requires.price c.in-Each.is its in
    omega (arith, few, facts.few)

pub product-requires-clause-decimals : goal.product-requires-clause-decimals
product-requires-clause-decimals c =
    let own = c.unwrap-own.result.now in
    let style = c.unwrap-style.result.now in
    let at = sym (rw c.unwrap-own.ensures at c.style.ensures) in
    let its = sym (rw (c.unwrap-style.ensures, c.unit-2.ensures) at c.style-2.ensures) in
    let few = (style_facts c.args.styles.now c.args.unit.0 own c.are_styles.ensures at).few in
    let facts = price_facts c.args.styles.now c.args.price.now style c.in-Each.unit c.in-Each.digits c.in-Each.decimals
    c.requires.price c.in-Each.is its in
    omega (arith, few, facts.few)

pub returns-in-Each-clause-value : goal.returns-in-Each-clause-value
returns-in-Each-clause-value c =
    let own = c.unwrap-own.result.now in
    let style = c.unwrap-style.result.now in
    let at = sym (rw c.unwrap-own.ensures at c.style.ensures) in
    let its = sym (rw (c.unwrap-style.ensures, c.unit-2.ensures) at c.style-2.ensures) in
    let other = rw c.unit.ensures at (ne_eqb _ _ c.if-unit.false) in
    let facts = price_facts c.args.styles.now c.args.price.now style c.in-Each.unit c.in-Each.digits c.in-Each.decimals
    c.requires.price c.in-Each.is its in
    let back = to_z-of_z w64 c.args.qty (search rules) in
    (rw back at c.product.ensures.value) ∙ each_cost c.args.styles.now c.args.qty c.args.unit c.in-Each.unit
    c.args.price.now own style c.in-Each.digits c.in-Each.decimals c.in-Each.is other at its facts.declared
