use Rattle.std.proofs.Common.{◌-ℤ◌, pos, ℤ, Some, ◌∙◌, ap, arith, rules, FitsSigned, w64, to_z, of_z}
use Rattle.std.proofs.lemmas.Int.{ints, to_z-of_z}
use Rattle.book_core.specs.declared.account.Reach.TheVariants.{Own}
use Rattle.book_core.specs.declared.place.Until.TheVariants.{Through}
use Rattle.book_core.proofs.BalanceLemmas.{small_within}
use Rattle.treasury_core.specs.Closing.{through, zero_claim}
use Rattle.treasury_core.proofs.ClosingLoops.{posted_as}
use Rattle.treasury_core.proofs.closing.push_closed.Goals as goal

pub overflow_sub-qty : goal.overflow_sub-qty
overflow_sub-qty g c =
    let fits : FitsSigned w64 c.balance-qty.result = search rules in
    let back = to_z-of_z w64 c.balance-qty.result fits in
    let within = small_within (g.L.Ledger.book c.args.ledger.now) c.requires.within.small Own c.args.account.now
    c.args.unit (Through c.args.day) in
    let low = within.low in
    let high = within.high in
    let is = c.balance-qty.ensures in
    omega (arith, ints, back, low, high, is)

pub returns-clause-ok : goal.returns-clause-ok
returns-clause-ok g c =
    let book = g.L.Ledger.book c.args.ledger.now in
    let fits : FitsSigned w64 c.balance-qty.result = search rules in
    let back = to_z-of_z w64 c.balance-qty.result fits in
    let within = small_within book c.requires.within.small Own c.args.account.now c.args.unit (Through c.args.day) in
    let low = within.low in
    let high = within.high in
    let is = c.balance-qty.ensures in
    let fine : FitsSigned w64 (pos 0 -ℤ to_z w64 (of_z w64 c.balance-qty.result)) =
    omega (arith, ints, back, low, high, is) in
    let same = to_z-of_z w64 (pos 0 -ℤ to_z w64 (of_z w64 c.balance-qty.result)) fine ∙ ap (λ (q : ℤ). pos 0 -ℤ q)
    (back ∙ is) in
    posted_as c.push_posting.result c.push_posting.new.postings c.args.postings.now c.args.account.now c.args.unit
    (to_z w64 (of_z w64 (pos 0 -ℤ to_z w64 (of_z w64 c.balance-qty.result))))
    (pos 0 -ℤ through book c.args.day c.args.account.now c.args.unit)
    (Some c.zero_claim.result) (Some (zero_claim c.args.unit)) c.push_posting.ensures.ok same
    (ap Some c.zero_claim.ensures)
