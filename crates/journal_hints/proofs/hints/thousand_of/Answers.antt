use Rattle.std.proofs.Common.{arith, sym, ◌≤◌, ◌^◌, lit<}
use Rattle.std.proofs.Math.Nat.{pow-le-pow_right}
use Rattle.money_core.proofs.StyleLemmas.{style_facts}
use Rattle.journal_hints.proofs.hints.thousand_of.Goals as goal

pub pow-requires : goal.pow-requires
pow-requires c =
    let style = c.in-Some.style.now in
    let facts = style_facts c.args.styles.now c.args.unit.0 style c.are_styles.ensures (sym c.in-Some.ensures) in
    let few : c.from.result ≤ 6 = rw c.from.ensures facts.few in
    let small : 10 ^ c.from.result ≤ 10 ^ 6 = pow-le-pow_right (lit< tt) few in
    omega (arith, small)

pub overflow_mul-result : goal.overflow_mul-result
overflow_mul-result c =
    let style = c.in-Some.style.now in
    let facts = style_facts c.args.styles.now c.args.unit.0 style c.are_styles.ensures (sym c.in-Some.ensures) in
    let few : c.from.result ≤ 6 = rw c.from.ensures facts.few in
    let small : 10 ^ c.from.result ≤ 10 ^ 6 = pow-le-pow_right (lit< tt) few in
    omega (arith, small, c.pow.ensures)
