use Rattle.std.proofs.Common.{◌≡◌, ◌∙◌, ℤ, ◌+ℤ◌, List, min, arith, ap, sym, subst, FitsSigned, to_z, of_z, w64}
use Rattle.std.proofs.Common.{rules}
use Rattle.std.proofs.lemmas.Int.{ints, to_z-of_z}
use Rattle.day_sums.specs.declared.period.Period.TheVariants.{Within}
use Rattle.day_sums.specs.Sums.{period_sum}
use Rattle.book_core.specs.declared.balance.Query.{Query}
use Rattle.book_core.specs.declared.place.Place.{Place}
use Rattle.book_core.specs.declared.place.Until.TheVariants.{At}
use Rattle.book_core.specs.declared.account.Reach.{Reach}
use Rattle.book_core.specs.declared.account.Reach.TheVariants.{Own}
use Rattle.book_core.specs.declared.own_legs.OwnLegs.{OwnLegs}
use Rattle.book_core.specs.declared.entry.Entry.{Entry}
use Rattle.book_core.specs.Balance.{balance}
use Rattle.book_core.specs.Query.{balance_for}
use Rattle.book_core.specs.GoodBook.{IsWithin, most_turnover}
use Rattle.book_core.specs.OwnLegs.{AreOwnIn}
use Rattle.book_core.proofs.SumLemmas.{Within as Small}
use Rattle.book_core.proofs.BalanceLemmas.{small_within}
use Rattle.book_core.proofs.OwnLegLemmas.{start, balance_own, small_sum}
use Rattle.book_core.proofs.entry_book.EntryBook.found_at.Goals as goal

-- the two parts, as machine integers, are the balance
parts : (q : Query) (own : OwnLegs) (book b : List Entry) (p : Place) (x y : ℤ) → AreOwnIn own book → IsWithin book
    → q.reach ≡ Own → q.limit ≡ At p → p.entry ≡ own.number → p.day.0 ≡ own.day.0
    → x ≡ balance q.reach book q.account.now q.unit (At (start p))
    → y ≡ period_sum own.rows q.account.now q.unit (Within own.day (min p.leg own.count)) → book ≡ b →
    FitsSigned w64 (to_z w64 (of_z w64 x) +ℤ to_z w64 (of_z w64 y))
    × (to_z w64 (of_z w64 (to_z w64 (of_z w64 x) +ℤ to_z w64 (of_z w64 y))) ≡ balance_for q b)
parts q own book b p x y h within reach at number day e f g = (sum.0, sum.1 ∙ sym whole ∙ ap (balance_for q) g)
  where
    before : x ≡ balance Own book q.account.now q.unit (At (start p))
    before = e ∙ ap (λ (r : Reach). balance r book q.account.now q.unit (At (start p))) reach

    whole : balance_for q book ≡ balance Own book q.account.now q.unit (At p)
    whole = ap (λ (r : Reach). balance r book q.account.now q.unit q.limit) reach
        ∙ ap (balance Own book q.account.now q.unit) at

    split : balance Own book q.account.now q.unit (At p) ≡ x +ℤ y
    split = balance_own own book q.account.now q.unit p h number day
        ∙ ap (λ (z : ℤ). z +ℤ period_sum own.rows q.account.now q.unit (Within own.day (min p.leg own.count)))
        (sym before) ∙ ap (λ (z : ℤ). x +ℤ z) (sym f)

    sum : FitsSigned w64 (to_z w64 (of_z w64 x) +ℤ to_z w64 (of_z w64 y))
        × (to_z w64 (of_z w64 (to_z w64 (of_z w64 x) +ℤ to_z w64 (of_z w64 y)))
        ≡ balance Own book q.account.now q.unit (At p))
    sum = small_sum (balance Own book q.account.now q.unit (At p)) x y
        (subst (Small most_turnover) (sym before)
        (small_within book within.small Own q.account.now q.unit (At (start p))))
        (small_within book within.small Own q.account.now q.unit (At p)) split

pub returns-then-place-self : goal.returns-then-place-self
returns-then-place-self c =
    to_z-of_z w64 c.found.result (search rules) ∙ c.found.ensures ∙ ap (balance_for c.args.query.now) c.self.view_is

pub sum_up_to-own-requires : goal.sum_up_to-own-requires
sum_up_to-own-requires c = c.self.invariant.0.legs.few

pub overflow_add-result : goal.overflow_add-result
overflow_add-result c =
    (parts c.args.query.now c.self.inside.own.now c.self.inside.book.now c.args.self.now c.args.place
    c.found-before.result c.sum_up_to-own.result c.self.invariant.0 c.self.invariant.1 c.requires.reach c.requires.at
    c.if-place-self.false (grind (arith, ints, c.if-place-self-2.false)) c.found-before.ensures c.sum_up_to-own.ensures
    c.self.view_is).0

pub returns : goal.returns
returns c =
    (parts c.args.query.now c.self.inside.own.now c.self.inside.book.now c.args.self.now c.args.place
    c.found-before.result c.sum_up_to-own.result c.self.invariant.0 c.self.invariant.1 c.requires.reach c.requires.at
    c.if-place-self.false (grind (arith, ints, c.if-place-self-2.false)) c.found-before.ensures c.sum_up_to-own.ensures
    c.self.view_is).1
