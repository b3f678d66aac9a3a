use Rattle.std.proofs.Common.{◌∙◌, sym, arith}
use Rattle.std.proofs.lemmas.Int.{ints}
use Rattle.day_sums.proofs.FirstLemmas.{first_small, raised_first}
use Rattle.day_sums.proofs.row.Row.raise.Goals as goal

pub overflow_add-self : goal.overflow_add-self
overflow_add-self c =
    let h = first_small c.args.self.now c.self.inside.day c.self.inside.number c.self.inside.qty c.self.inside.days
    c.self.view_is (sym c.is_empty.ensures ∙ c.if-is_empty.true) c.requires.sums in
    let a = h.low in
    let b = h.high in
    let d = c.requires.qty.low in
    let e = c.requires.qty.high in
    omega (arith, ints)

pub returns-then-is_empty : goal.returns-then-is_empty
returns-then-is_empty c =
    let none = sym c.is_empty.ensures ∙ c.if-is_empty.true in
    let h = first_small c.args.self.now c.self.inside.day c.self.inside.number c.self.inside.qty c.self.inside.days
    c.self.view_is none c.requires.sums in
    let a = h.low in
    let b = h.high in
    let d = c.requires.qty.low in
    let e = c.requires.qty.high in
    raised_first c.args.self.now c.self.inside.day c.self.inside.number c.self.inside.qty c.args.qty _
    c.self.inside.days c.args.day c.args.number c.self.view_is none c.requires.open (omega (arith, ints))
