use Rattle.std.proofs.Common.{arith, sym}
use Rattle.journal_hints.proofs.PriceLemmas.{few_places}
use Rattle.journal_hints.proofs.exact.say_posting.Goals as goal

pub overflow_add-own : goal.overflow_add-own
overflow_add-own c =
    let both = c.in-Some-Some in
    let few = few_places c.args.styles.now c.args.posting.now both.unit both.qty both.price c.in-Each.cost
    c.in-Each.digits c.in-Each.decimals c.unwrap-own.result.now c.unwrap-style.result.now c.are_styles.ensures
    c.requires both.is-0 both.is-1 c.in-Each.is (sym (rw c.unwrap-own.ensures at c.style.ensures))
    (sym (rw c.unwrap-style.ensures at c.style-2.ensures)) in
    omega (arith, few)

pub say_product-requires : goal.say_product-requires
say_product-requires c =
    let both = c.in-Some-Some in
    few_places c.args.styles.now c.args.posting.now both.unit both.qty both.price c.in-Each.cost c.in-Each.digits
    c.in-Each.decimals c.unwrap-own.result.now c.unwrap-style.result.now c.are_styles.ensures c.requires both.is-0
    both.is-1 c.in-Each.is (sym (rw c.unwrap-own.ensures at c.style.ensures))
    (sym (rw c.unwrap-style.ensures at c.style-2.ensures))
