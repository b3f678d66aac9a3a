-- sums over entries that come after others, by their own numbers
use Rattle.std.proofs.Common.{◌≡◌, ℕ, ◌+◌, ◌-◌, ◌≤◌, Bool, true, false, ◌&&◌, List, [], ◌∷◌, arith, refl, ap, ◌∙◌, sym}
use Rattle.std.proofs.Common.{subst, nat_eq, nat_lt, ℤ, pos, ◌+ℤ◌}
use Rattle.std.specs.Prelude.{if◌then◌else◌}
use Rattle.std.proofs.lemmas.Bool.Decides.{nat_tests}
use Rattle.money_core.specs.declared.day.Day.{Day}
use Rattle.money_core.specs.declared.unit.Unit.{Unit as Commodity}
use Rattle.book_core.specs.declared.account.Reach.{Reach}
use Rattle.book_core.specs.declared.place.Until.{Until}
use Rattle.book_core.specs.declared.place.Until.TheVariants.{At, Through}
use Rattle.book_core.specs.Account.{reaches}
use Rattle.book_core.specs.declared.leg.Leg.{Leg}
use Rattle.book_core.specs.declared.place.Place.{Place}
use Rattle.book_core.specs.declared.entry.Entry.{Entry}
use Rattle.book_core.specs.Place.{place_le}
use Rattle.book_core.specs.Book.{Posted, posted_legs, posted_from}
use Rattle.book_core.specs.Balance.{balance, counts, total}
use Rattle.book_core.proofs.SumLemmas.{total-append}

-- a leg of entry n, numbered j
abbrev leg_at : Day → ℕ → ℕ → Leg → Posted
leg_at day n j x = record { place = record { day = day; entry = n; leg = j }; leg = x }

-- the tests agree where the first sees the entries k numbers higher
abbrev AreShifted : ℕ → (Posted → Bool) → (Posted → Bool) → Type 0
AreShifted k f g = (day : Day) (n j : ℕ) (x : Leg) → 1 ≤ n → f (leg_at day (k + n) j x) ≡ g (leg_at day n j x)

legs_behind : (k : ℕ) (f g : Posted → Bool) → AreShifted k f g → (day : Day) (n j : ℕ) (legs : List Leg) → 1 ≤ n
    → total f (posted_legs day (k + n) j legs) ≡ total g (posted_legs day n j legs)
legs_behind k f g same day n j [] low = refl
legs_behind k f g same day n j (x ∷ xs) low =
    ap (λ (t : Bool). (if t then x.qty else pos 0) +ℤ total f (posted_legs day (k + n) (j + 1) xs)) (same day n j x low)
    ∙ ap (λ (z : ℤ). (if g (leg_at day n j x) then x.qty else pos 0) +ℤ z) (legs_behind k f g same day n (j + 1) xs low)

entries_behind : (k : ℕ) (f g : Posted → Bool) → AreShifted k f g → (n : ℕ) (es : List Entry) → 1 ≤ n
    → total f (posted_from (k + n) es) ≡ total g (posted_from n es)
entries_behind k f g same n [] low = refl
entries_behind k f g same n (e ∷ es) low =
    total-append f (posted_legs e.day (k + n) 1 e.legs) (posted_from (k + n + 1) es)
    ∙ ap (λ (z : ℤ). z +ℤ total f (posted_from (k + n + 1) es)) (legs_behind k f g same e.day n 1 e.legs low)
    ∙ ap (λ (m : ℕ). total g (posted_legs e.day n 1 e.legs) +ℤ total f (posted_from m es)) (omega arith)
    ∙ ap (λ (z : ℤ). total g (posted_legs e.day n 1 e.legs) +ℤ z) (entries_behind k f g same (n + 1) es (omega arith))
    ∙ sym (total-append g (posted_legs e.day n 1 e.legs) (posted_from (n + 1) es))

-- ---- places
lt_behind : (k n m : ℕ) → 1 ≤ n → nat_lt (k + n) m ≡ nat_lt n (m - k)
lt_behind k n m low = by_tests (nat_lt (k + n) m) (nat_lt n (m - k)) refl refl
  where
    by_tests : (t u : Bool) → nat_lt (k + n) m ≡ t → nat_lt n (m - k) ≡ u → t ≡ u
    by_tests true true e f = refl
    by_tests false false e f = refl
    by_tests true false e f = absurd (grind (arith, nat_tests))
    by_tests false true e f = absurd (grind (arith, nat_tests))

eq_behind : (k n m : ℕ) → 1 ≤ n → nat_eq (k + n) m ≡ nat_eq n (m - k)
eq_behind k n m low = by_tests (nat_eq (k + n) m) (nat_eq n (m - k)) refl refl
  where
    by_tests : (t u : Bool) → nat_eq (k + n) m ≡ t → nat_eq n (m - k) ≡ u → t ≡ u
    by_tests true true e f = refl
    by_tests false false e f = refl
    by_tests true false e f = absurd (grind (arith, nat_tests))
    by_tests false true e f = absurd (grind (arith, nat_tests))

place_behind : (k n j : ℕ) (day : Day) (p : Place) → 1 ≤ n
    → place_le (record { day = day; entry = k + n; leg = j }) p
    ≡ place_le (record { day = day; entry = n; leg = j }) (record { day = p.day; entry = p.entry - k; leg = p.leg })
place_behind k n j day p low = rw (lt_behind k n p.entry low, eq_behind k n p.entry low) refl

-- ---- balances
pub balance_behind : (k : ℕ) (reach : Reach) (a : List ℕ) (u : Commodity) (limit : Until) (p : Place) (m : ℕ)
    → limit ≡ At p → m ≡ p.entry - k → (es : List Entry) →
    balance reach es a u (At (record { day = p.day; entry = m; leg = p.leg }))
    ≡ total (counts reach a u limit) (posted_from (k + 1) es)
unfolding balance
balance_behind k reach a u limit p m e f es =
    ap (λ (i : ℕ). total (counts reach a u (At (record { day = p.day; entry = i; leg = p.leg }))) (posted_from 1 es)) f
    ∙ sym (entries_behind k (counts reach a u (At p))
    (counts reach a u (At (record { day = p.day; entry = p.entry - k; leg = p.leg }))) shifted 1 es (omega arith))
    ∙ ap (λ (l : Until). total (counts reach a u l) (posted_from (k + 1) es)) (sym e)
  where
    shifted : AreShifted k (counts reach a u (At p))
        (counts reach a u (At (record { day = p.day; entry = p.entry - k; leg = p.leg })))
    shifted day n j x low =
        ap (λ (t : Bool). (nat_eq x.unit.0 u.0 && reaches reach a x.account) && t) (place_behind k n j day p low)

pub balance_through_behind : (k : ℕ) (reach : Reach) (a : List ℕ) (u : Commodity) (limit : Until) (d : Day)
    → limit ≡ Through d → (es : List Entry)
    → balance reach es a u limit ≡ total (counts reach a u limit) (posted_from (k + 1) es)
unfolding balance
balance_through_behind k reach a u limit d e es =
    subst (λ (l : Until). total (counts reach a u l) (posted_from 1 es)
    ≡ total (counts reach a u l) (posted_from (k + 1) es)) (sym e)
    (sym (entries_behind k (counts reach a u (Through d)) (counts reach a u (Through d)) (λ day n j x low. refl) 1 es
    (omega arith)))
