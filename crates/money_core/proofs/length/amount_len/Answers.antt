use Rattle.std.proofs.Common.{rules, arith, sym, w64}
use Rattle.std.proofs.lemmas.Int.{to_z-of_z}
use Rattle.money_core.specs.AmountText.{printed_in}
use Rattle.money_core.proofs.StyleLemmas.{StyleFacts, style_facts}
use Rattle.money_core.proofs.length.amount_len.Goals as goal
use Rattle.money_core.proofs.length.amount_len.Goals.{After-unwrap-style}

facts : (c : After-unwrap-style) → StyleFacts c.unwrap-style.result.now
facts c = style_facts c.args.styles.now c.args.unit.0 c.unwrap-style.result.now c.are_styles.ensures
    (sym (rw c.unwrap-style.ensures at c.style.ensures))

pub amount_len_with-requires-clause-symbol : goal.amount_len_with-requires-clause-symbol
amount_len_with-requires-clause-symbol c = (facts c).symbolic

pub amount_len_with-requires-clause-few : goal.amount_len_with-requires-clause-few
amount_len_with-requires-clause-few c = omega (arith, (facts c).few)

pub returns-clause-value : goal.returns-clause-value
unfolding printed_in
returns-clause-value c =
    let at = sym (rw c.unwrap-style.ensures at c.style.ensures) in
    let back = to_z-of_z w64 c.args.qty (search rules) in
    rw at (rw back at c.amount_len_with.ensures.value)

pub returns-clause-short : goal.returns-clause-short
returns-clause-short c =
    omega (arith, (facts (goal.at.returns-clause-short c).After-unwrap-style).few, c.amount_len_with.ensures.bound)
