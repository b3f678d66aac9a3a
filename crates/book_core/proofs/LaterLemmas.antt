-- legs after a limit
use Rattle.std.proofs.Common.{◌≡◌, ℕ, ◌+◌, Bool, true, false, ◌&&◌, List, [], ◌∷◌, refl, arith, nat_eq, nat_lt, pos}
use Rattle.std.proofs.Common.{◌+ℤ◌}
use Rattle.std.specs.Prelude.{if◌then◌else◌, int_lt, cond}
use Rattle.std.specs.Ordering.{nat_cmp, ordering_then, is_le}
use Rattle.std.specs.declared.cmp.Ordering.TheVariants.{Less, Equal, Greater}
use Rattle.std.proofs.lemmas.Bool.Decides.{nat_tests}
use Rattle.money_core.specs.declared.unit.Unit.{Unit as Commodity}
use Rattle.money_core.specs.declared.day.Day.{Day}
use Rattle.book_core.specs.declared.leg.Leg.{Leg}
use Rattle.book_core.specs.declared.place.Place.{Place}
use Rattle.book_core.specs.declared.place.Until.{Until}
use Rattle.book_core.specs.declared.place.Until.TheVariants.{At, Through}
use Rattle.book_core.specs.declared.account.Reach.{Reach}
use Rattle.book_core.specs.Account.{reaches}
use Rattle.book_core.specs.Place.{is_until, place_le}
use Rattle.book_core.specs.Book.{posted_legs}
use Rattle.book_core.specs.Balance.{counts, total}

-- a later leg's number is no more at a leg or before it than an earlier one's
leg_later : (k l : ℕ) → is_le (nat_cmp k l) ≡ false → is_le (nat_cmp (k + 1) l) ≡ false
leg_later k l h = by_tests (nat_lt k l) (nat_eq k l) (nat_lt (k + 1) l) (nat_eq (k + 1) l) refl refl refl refl h
  where
    by_tests : (t u v w : Bool) → nat_lt k l ≡ t → nat_eq k l ≡ u → nat_lt (k + 1) l ≡ v → nat_eq (k + 1) l ≡ w
        → is_le (cond t Less (cond u Equal Greater)) ≡ false → is_le (cond v Less (cond w Equal Greater)) ≡ false
    by_tests true u v w e f g i m = absurd (cc)
    by_tests false true v w e f g i m = absurd (cc)
    by_tests false false true w e f g i m = absurd (grind (arith, nat_tests, e, g))
    by_tests false false false true e f g i m = absurd (grind (arith, nat_tests, e, f, i))
    by_tests false false false false e f g i m = refl

place_later : (day : Day) (n k : ℕ) (p : Place) → place_le (record { day = day; entry = n; leg = k }) p ≡ false
    → place_le (record { day = day; entry = n; leg = k + 1 }) p ≡ false
place_later day n k p h =
    by_tests (int_lt day.0 p.day.0) (int_lt p.day.0 day.0) (nat_lt n p.entry) (nat_eq n p.entry) h
  where
    by_tests : (t u v w : Bool) →
        is_le (ordering_then (cond t Less (cond u Greater Equal))
        (ordering_then (cond v Less (cond w Equal Greater)) (nat_cmp k p.leg))) ≡ false →
        is_le (ordering_then (cond t Less (cond u Greater Equal))
        (ordering_then (cond v Less (cond w Equal Greater)) (nat_cmp (k + 1) p.leg))) ≡ false
    by_tests true u v w e = e
    by_tests false true v w e = e
    by_tests false false true w e = e
    by_tests false false false true e = leg_later k p.leg e
    by_tests false false false false e = e

until_later : (limit : Until) (day : Day) (n k : ℕ) → is_until limit (record { day = day; entry = n; leg = k }) ≡ false
    → is_until limit (record { day = day; entry = n; leg = k + 1 }) ≡ false
until_later (At p) day n k h = place_later day n k p h
until_later (Through d) day n k h = h

-- where a leg is after the limit, it adds nothing, and neither do those after it
pub total_later : (reach : Reach) (a : List ℕ) (u : Commodity) (limit : Until) (day : Day) (n k : ℕ) (legs : List Leg)
    → is_until limit (record { day = day; entry = n; leg = k }) ≡ false
    → total (counts reach a u limit) (posted_legs day n k legs) ≡ pos 0
total_later reach a u limit day n k [] h = refl
total_later reach a u limit day n k (x ∷ xs) h =
    rw (h, total_later reach a u limit day n (k + 1) xs (until_later limit day n k h))
    (by_test (nat_eq x.unit.0 u.0 && reaches reach a x.account))
  where
    by_test : (t : Bool) → (if t && false then x.qty else pos 0) +ℤ pos 0 ≡ pos 0
    by_test true = refl
    by_test false = refl
