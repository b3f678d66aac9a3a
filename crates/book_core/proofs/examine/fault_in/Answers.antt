use Rattle.std.proofs.Common.{◌≡◌, ℕ, ◌∙◌, ap, arith, List, length}
use Rattle.book_core.specs.declared.leg.Leg.{Leg}
use Rattle.book_core.specs.declared.claim.Placed.{Placed}
use Rattle.book_core.specs.Claim.{account_at}
use Rattle.book_core.proofs.ExamineLemmas.{fault_leg, none_on_more}
use Rattle.book_core.proofs.examine.fault_in.Goals as goal

to_legs : (a : List ℕ) (xs ys : List Leg) (n : ℕ) → a ≡ account_at xs n → xs ≡ ys → a ≡ account_at ys n
to_legs a xs ys n e f = e ∙ ap (λ (zs : List Leg). account_at zs n) f

pub returns-then-placed-place : goal.returns-then-placed-place
returns-then-placed-place g c =
    fault_leg (g.B.Balances.book c.args.book.now) c.args.entry.now.legs c.args.entry.now.claims
    c.items-placed-items.result.now c.loop-placed.placed-index _ c.args.place c.account_of-account.result.now
    c.claim_fault.result
    c.items-placed-items.ensures c.requires
    c.loop-placed-test.true c.if-placed-place.true (to_legs _ _ _ _ c.account_of-account.ensures c.items.ensures)
    c.claim_fault.ensures

pub loop-placed-preserved : goal.loop-placed-preserved
loop-placed-preserved g c =
    none_on_more c.args.entry.now.claims c.items-placed-items.result.now c.args.place.leg c.loop-placed.placed-index _
    c.items-placed-items.ensures c.loop-placed-test.true c.if-placed-place.false c.loop-placed.invariant

pub returns : goal.returns
returns g c y h on = absurd (c.loop-placed.invariant y h.0
    (omega (arith, h.1, ap (λ (xs : List Placed). length xs) c.items-placed-items.ensures, c.loop-placed-test.false))
    h.2 on)
