-- the commodities of a book one after another, by turnover, and the first that strays
use Rattle.std.proofs.Common.{◌≡◌, ℕ, ◌+◌, ◌<◌, ◌≤◌, Bool, true, false, List, ◌++◌, refl, ap, ◌∙◌, sym, subst, arith}
use Rattle.std.proofs.Common.{nat_eq, nat_lt, ◌⊎◌, inl, inr, Option, Some, None, pos}
use Rattle.std.specs.Prelude.{if◌then◌else◌, nat_le}
use Rattle.std.proofs.lemmas.Bool.{cases_lt}
use Rattle.std.proofs.lemmas.Bool.Decides.{nat_tests}
use Rattle.std.proofs.lemmas.Int.{ints}
use Rattle.money_core.specs.declared.unit.Unit.{Unit as Commodity}
use Rattle.book_core.specs.declared.leg.Leg.{Leg}
use Rattle.book_core.specs.declared.entry.Entry.{Entry}
use Rattle.book_core.specs.declared.balance.Query.{Query}
use Rattle.book_core.specs.Book.{legs_of}
use Rattle.book_core.specs.Balance.{balance, moved, turnover}
use Rattle.book_core.specs.Claim.{lower, least_unit, stray}
use Rattle.book_core.specs.Query.{is_stray_for, stray_for}
use Rattle.book_core.specs.DayRows.{IsNextMoved, moved_at, AreMoved}
use Rattle.book_core.proofs.BookLemmas.{one_unit, none_moves, turnover-append}
use Rattle.book_core.proofs.BalanceLemmas.{balance_within}
use Rattle.book_core.proofs.CommodityLemmas.{is_after, has_leg, passes_not, least_passes, least_le}
use Rattle.book_core.proofs.HoldLemmas.{none_least, stray_holds, stray_parts, zero_stray, stray_first}

-- ---- the next commodity
-- a commodity of no leg moves nothing
absent_moves : (v : Commodity) (xs : List Leg) → has_leg v xs ≡ false → moved v xs ≡ 0
absent_moves v xs h =
    let t : nat_eq v.0 v.0 ≡ true = grind (arith, nat_tests) in none_moves (λ (u : Commodity). nat_eq u.0 v.0) v xs h t

pub next_of_legs : (xs : List Leg) (u : Commodity) (o : Option Commodity) → o ≡ least_unit (is_after u) xs
    → IsNextMoved (λ v. moved v xs) u o
next_of_legs xs u None e = none
  where
    none : (v : Commodity) → u.0 < v.0 → moved v xs ≡ 0
    none v l = by_test (has_leg v xs) refl
      where
        by_test : (t : Bool) → has_leg v xs ≡ t → moved v xs ≡ 0
        by_test true h = absurd (let f : nat_lt u.0 v.0 ≡ false =
            passes_not (is_after u) v xs (sym e) h in let g : nat_lt u.0 v.0 ≡ true = grind (arith, nat_tests) in cc)
        by_test false h = absent_moves v xs h
next_of_legs xs u (Some w) e = (after, between)
  where
    after : u.0 < w.0
    after = let f : nat_lt u.0 w.0 ≡ true = least_passes (is_after u) w xs (sym e) in grind (arith, nat_tests)

    between : (v : Commodity) → u.0 < v.0 → v.0 < w.0 → moved v xs ≡ 0
    between v l k = by_test (has_leg v xs) refl
      where
        by_test : (t : Bool) → has_leg v xs ≡ t → moved v xs ≡ 0
        by_test true h = absurd (let g : nat_lt u.0 v.0 ≡ true = grind (arith, nat_tests) in let m =
            least_le (is_after u) v w xs (sym e) h g in omega arith)
        by_test false h = absent_moves v xs h

both_zero : (m n : ℕ) → m ≡ 0 → n ≡ 0 → m + n ≡ 0
both_zero m n e f = omega arith

-- of two amounts, by the next of each
pub next_of_both : (f g : Commodity → ℕ) (u : Commodity) (a b : Option Commodity) → IsNextMoved f u a
    → IsNextMoved g u b → IsNextMoved (λ v. f v + g v) u (lower a b)
next_of_both f g u None None h k = λ v l. both_zero (f v) (g v) (h v l) (k v l)
next_of_both f g u None (Some y) h k = (k.0, λ v l m. both_zero (f v) (g v) (h v l) (k.1 v l m))
next_of_both f g u (Some x) None h k = (h.0, λ v l m. both_zero (f v) (g v) (h.1 v l m) (k v l))
next_of_both f g u (Some x) (Some y) h k = by_test (nat_le x.0 y.0) refl
  where
    by_test : (t : Bool) → nat_le x.0 y.0 ≡ t → IsNextMoved (λ v. f v + g v) u (if t then Some x else Some y)
    by_test true e = let le : x.0 ≤ y.0 =
        grind (arith, nat_tests) in (h.0, λ v l m. both_zero (f v) (g v) (h.1 v l m) (k.1 v l (omega arith)))
    by_test false e = let lt : y.0 < x.0 =
        grind (arith, nat_tests) in (k.0, λ v l m. both_zero (f v) (g v) (h.1 v l (omega arith)) (k.1 v l m))

pub next_same : (f g : Commodity → ℕ) (u : Commodity) (o : Option Commodity) → ((v : Commodity) → g v ≡ f v)
    → IsNextMoved f u o → IsNextMoved g u o
next_same f g u None same h = λ v l. same v ∙ h v l
next_same f g u (Some w) same h = (h.0, λ v l m. same v ∙ h.1 v l m)

-- by the table of a book
pub next_of_table : (table : List ℕ) (b : List Entry) (u : Commodity) (o : Option Commodity) → AreMoved table b
    → IsNextMoved (moved_at table) u o → IsNextMoved (λ v. turnover v b) u o
next_of_table table b u o are h = next_same (moved_at table) (λ v. turnover v b) u o (λ v. sym (are v)) h

-- of a book with new entries
pub next_of_book : (old new b : List Entry) (u : Commodity) (a n o : Option Commodity)
    → IsNextMoved (λ v. turnover v old) u a → IsNextMoved (λ v. turnover v new) u n → o ≡ lower a n → old ++ new ≡ b
    → IsNextMoved (λ v. turnover v b) u o
next_of_book old new b u a n o h k f d =
    next_same (λ v. turnover v old + turnover v new) (λ v. turnover v b) u o
    (λ v. sym (ap (turnover v) d) ∙ turnover-append v old new)
    (subst (IsNextMoved (λ v. turnover v old + turnover v new) u) (sym f)
    (next_of_both (λ v. turnover v old) (λ v. turnover v new) u a n h k))

-- ---- the first that strays
-- what has no turnover does not stray
pub no_turnover_no_stray : (q : Query) (b : List Entry) (v : Commodity) → turnover v b ≡ 0 → is_stray_for q b v ≡ false
no_turnover_no_stray q b v h =
    let w = balance_within q.reach b q.account.now v q.limit in
    let low = w.low in
    let high = w.high in
    let zero : balance q.reach b q.account.now v q.limit ≡ pos 0 = omega (arith, ints) in
    zero_stray q.unit v (balance q.reach b q.account.now v q.limit) (λ _. zero)

-- none below a commodity strays, and so none below the next
pub below_moved : (q : Query) (b : List Entry) (u w : Commodity)
    → ((v : Commodity) → v.0 < u.0 → is_stray_for q b v ≡ false) → is_stray_for q b u ≡ false
    → IsNextMoved (λ v. turnover v b) u (Some w) → (v : Commodity) → v.0 < w.0 → is_stray_for q b v ≡ false
below_moved q b u w below own next v l = by_place (cases_lt v.0 u.0)
  where
    later : (v.0 ≡ u.0) ⊎ (u.0 < v.0) → is_stray_for q b v ≡ false
    later (inl e) =
        ap (is_stray_for q b) (one_unit v u (let f : nat_eq v.0 u.0 ≡ true = grind (arith, nat_tests) in f)) ∙ own
    later (inr m) = no_turnover_no_stray q b v (next.1 v m l)

    by_place : (v.0 < u.0) ⊎ (u.0 ≤ v.0) → is_stray_for q b v ≡ false
    by_place (inl m) = below v m
    by_place (inr m) = later (by_test (nat_eq v.0 u.0) refl)
      where
        by_test : (t : Bool) → nat_eq v.0 u.0 ≡ t → (v.0 ≡ u.0) ⊎ (u.0 < v.0)
        by_test true e = inl (grind (arith, nat_tests))
        by_test false e = inr (grind (arith, nat_tests))

pub none_strays : (q : Query) (b : List Entry) (u : Commodity)
    → ((v : Commodity) → v.0 < u.0 → is_stray_for q b v ≡ false) → is_stray_for q b u ≡ false
    → IsNextMoved (λ v. turnover v b) u None → stray_for q b ≡ None
unfolding stray
none_strays q b u below own next = none_least (is_stray_for q b) all (legs_of b)
  where
    all : (v : Commodity) → is_stray_for q b v ≡ false
    all v = below_moved q b u (record { 0 = v.0 + (u.0 + 1) }) below own ((omega arith), (λ w l m. next w l)) v
        (omega arith)

stray_passes : (q : Query) (b : List Entry) (w : Commodity) → stray_for q b ≡ Some w → is_stray_for q b w ≡ true
unfolding stray
stray_passes q b w e = least_passes (is_stray_for q b) w (legs_of b) e

pub first_strays : (q : Query) (b : List Entry) (u : Commodity)
    → ((v : Commodity) → v.0 < u.0 → is_stray_for q b v ≡ false) → is_stray_for q b u ≡ true → stray_for q b ≡ Some u
first_strays q b u below own = by_case (stray_for q b) refl
  where
    parts : (nat_eq u.0 q.unit.0 ≡ false) × (balance q.reach b q.account.now u q.limit ≡ pos 0 → ⊥)
    parts = stray_parts q.unit u (balance q.reach b q.account.now u q.limit) own

    by_case : (o : Option Commodity) → stray_for q b ≡ o → o ≡ Some u
    by_case None e = absurd (parts.1 (stray_holds q.reach b q.account.now q.unit q.limit e u parts.0))
    by_case (Some w) e = by_place (cases_lt w.0 u.0)
      where
        by_place : (w.0 < u.0) ⊎ (u.0 ≤ w.0) → Some w ≡ Some u
        by_place (inl l) = absurd (let f = below w l in let g = stray_passes q b w e in cc)
        by_place (inr l) = by_test (nat_eq w.0 u.0) refl
          where
            by_test : (t : Bool) → nat_eq w.0 u.0 ≡ t → Some w ≡ Some u
            by_test true f = ap Some (one_unit w u f)
            by_test false f = absurd (parts.1
                (stray_first q.reach b q.account.now q.unit q.limit w e u
                (let m : u.0 < w.0 = grind (arith, nat_tests) in m) parts.0))
