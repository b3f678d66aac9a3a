-- a stable sort by day gives the list in order of day
use Rattle.std.proofs.Common.{◌≡◌, ℕ, suc, ◌<◌, ◌≤◌, Bool, true, false, cond, List, [], ◌∷◌, length, get_or}
use Rattle.std.proofs.Common.{arith, refl, ap, ◌∙◌, sym, subst, ℤ, ◌≤ℤ◌}
use Rattle.std.specs.Prelude.{filter, int_lt, int_le, not, ◌&&◌, if◌then◌else◌, ⊤}
use Rattle.std.specs.List.{AllByRecursion}
use Rattle.std.specs.List.Sorted.{ties, IsSortedByKey, IsStableByKey, IsSortedByKeyClosure, IsStableByKeyClosure}
use Rattle.std.specs.Fn.{Called}
use denote.Ref.{Bor}
use denote.Param.Members.{Mut}
use Rattle.std.proofs.lemmas.Fn.{always_returns_same}
use Rattle.std.specs.Ordering.{int_cmp, is_lt}
use Rattle.std.specs.declared.cmp.Ordering.TheVariants.{Less, Equal, Greater}
use Rattle.std.proofs.lemmas.Cmp.{int_cmp_total}
use Rattle.std.proofs.lemmas.Int.{ints}
use Rattle.std.proofs.lemmas.List.Sorted.{sorted_far, ranks_by}
use Rattle.money_core.proofs.TestLemmas.{le_from_int_le}
use Rattle.book_core.proofs.TouchedLemmas.{not_below_day}
use Rattle.treasury_reports.specs.declared.listed.Listed.{Listed}
use Rattle.treasury_reports.specs.RegisterReport.{put_by_day, by_day}

-- ---- lists in order, by any test
abbrev pub InOrder : {X : Type 0} → (X → X → Bool) → List X → Type 0
InOrder lt [] = ⊤
InOrder lt (x ∷ xs) = AllByRecursion (λ y. lt y x ≡ false) xs × InOrder lt xs

abbrev head_or : {X : Type 0} → X → List X → X
head_or d [] = d
head_or d (x ∷ xs) = x

abbrev tail_of : {X : Type 0} → List X → List X
tail_of [] = []
tail_of (x ∷ xs) = xs

-- what holds of each element holds of the first one that passes a test
first_of : {X : Type 0} (P : X → Type 0) (t : X → Bool) (xs : List X) (y : X) (rest : List X) → AllByRecursion P xs
    → filter t xs ≡ y ∷ rest → P y
first_of P t [] y rest h e = absurd (cc)
first_of {X} P t (x ∷ xs) y rest h e = by_test (t x) e (first_of P t xs y rest h.1)
  where
    by_test : (b : Bool) → cond b (x ∷ filter t xs) (filter t xs) ≡ y ∷ rest → (filter t xs ≡ y ∷ rest → P y) → P y
    by_test true f k = subst P (ap (head_or x) f) h.0
    by_test false f k = k f

tie_self : (a : Bool) → a ≡ false → (not a && not a) ≡ true
tie_self true e = absurd (cc)
tie_self false e = refl

tie_swap : (a b : Bool) → (not a && not b) ≡ false → (not b && not a) ≡ false
tie_swap true true e = refl
tie_swap true false e = refl
tie_swap false true e = refl
tie_swap false false e = e

no_tie : (a b : Bool) → (not a && not b) ≡ false → a ≡ false → b ≡ false → true ≡ false
no_tie true b e f g = absurd (cc)
no_tie false true e f g = absurd (cc)
no_tie false false e f g = e

same_first : {X : Type 0} (lt : X → X → Bool) → ((x : X) → lt x x ≡ false) → (y z : X) (ys zs : List X)
    → InOrder lt (y ∷ ys) → InOrder lt (z ∷ zs)
    → ((x : X) → filter (ties lt x) (y ∷ ys) ≡ filter (ties lt x) (z ∷ zs)) → y ≡ z
same_first {X} lt own y z ys zs h k same = by_tie (ties lt y z) refl
  where
    left : y ∷ filter (ties lt y) ys ≡ cond (ties lt y z) (z ∷ filter (ties lt y) zs) (filter (ties lt y) zs)
    left = sym (ap (λ (b : Bool). cond b (y ∷ filter (ties lt y) ys) (filter (ties lt y) ys))
        (tie_self (lt y y) (own y))) ∙ same y

    right : cond (ties lt z y) (y ∷ filter (ties lt z) ys) (filter (ties lt z) ys) ≡ z ∷ filter (ties lt z) zs
    right = same z ∙ ap (λ (b : Bool). cond b (z ∷ filter (ties lt z) zs) (filter (ties lt z) zs))
        (tie_self (lt z z) (own z))

    by_tie : (b : Bool) → ties lt y z ≡ b → y ≡ z
    by_tie true e =
        ap (head_or y) (left ∙ ap (λ (b : Bool). cond b (z ∷ filter (ties lt y) zs) (filter (ties lt y) zs)) e)
    by_tie false e =
        let there = first_of (λ w. lt w z ≡ false) (ties lt y) zs y (filter (ties lt y) ys) k.0
        (sym (left ∙ ap (λ (b : Bool). cond b (z ∷ filter (ties lt y) zs) (filter (ties lt y) zs)) e)) in
        let other = tie_swap (lt y z) (lt z y) e in
        let here = first_of (λ w. lt w y ≡ false) (ties lt z) ys z (filter (ties lt z) zs) h.0
        (sym (ap (λ (b : Bool). cond b (y ∷ filter (ties lt z) ys) (filter (ties lt z) ys)) other) ∙ right) in
        let both = no_tie (lt y z) (lt z y) e there here in
        absurd (cc)

-- two lists in order that have the same elements at each tie, in the same order, are one
pub one_order : {X : Type 0} (lt : X → X → Bool) → ((x : X) → lt x x ≡ false) → (ys zs : List X) → InOrder lt ys
    → InOrder lt zs
    → ((x : X) → filter (ties lt x) ys ≡ filter (ties lt x) zs) → ys ≡ zs
one_order lt own [] [] h k same = refl
one_order lt own [] (z ∷ zs) h k same =
    absurd (let e =
    same z ∙ ap (λ (b : Bool). cond b (z ∷ filter (ties lt z) zs) (filter (ties lt z) zs)) (tie_self (lt z z) (own z))
    in cc)
one_order lt own (y ∷ ys) [] h k same =
    absurd (let e =
    sym (ap (λ (b : Bool). cond b (y ∷ filter (ties lt y) ys) (filter (ties lt y) ys)) (tie_self (lt y y) (own y))) ∙
    same y in cc)
one_order {X} lt own (y ∷ ys) (z ∷ zs) h k same =
    ap (λ (x : X). x ∷ ys) first ∙ ap (λ (xs : List X). z ∷ xs) (one_order lt own ys zs h.1 k.1 rest)
  where
    first : y ≡ z
    first = same_first lt own y z ys zs h k same

    by_tests : (x : X) (a b : Bool) → a ≡ b
        → cond a (y ∷ filter (ties lt x) ys) (filter (ties lt x) ys)
        ≡ cond b (z ∷ filter (ties lt x) zs) (filter (ties lt x) zs)
        → filter (ties lt x) ys ≡ filter (ties lt x) zs
    by_tests x true true e f = ap tail_of f
    by_tests x true false e f = absurd (cc)
    by_tests x false true e f = absurd (cc)
    by_tests x false false e f = f

    rest : (x : X) → filter (ties lt x) ys ≡ filter (ties lt x) zs
    rest x = by_tests x (ties lt x y) (ties lt x z) (ap (ties lt x) first) (same x)

-- in order by places, and one by one
all_from : {X : Type 0} (P : X → Type 0) (xs : List X) → ((k : ℕ) (d : X) → k < length xs → P (get_or xs k d))
    → AllByRecursion P xs
all_from P [] h = tt
all_from P (x ∷ xs) h = (h 0 x (omega arith), all_from P xs (λ k d below. h (suc k) d (omega arith)))

in_order : {X : Type 0} (lt : X → X → Bool) (xs : List X)
    → ((i j : ℕ) (d : X) → i ≤ j → j < length xs → lt (get_or xs j d) (get_or xs i d) ≡ false) → InOrder lt xs
in_order lt [] h = tt
in_order lt (x ∷ xs) h = (
  all_from (λ y. lt y x ≡ false) xs (λ k d below. h 0 (suc k) d (omega arith) (omega arith)),
  in_order lt xs (λ i j d le below. h (suc i) (suc j) d (omega arith) (omega arith)),
)

-- ---- by day
abbrev pub earlier : Listed → Listed → Bool
earlier x y = is_lt (int_cmp x.day.0 y.day.0)

from_le : (a b : ℤ) → a ≤ℤ b → is_lt (int_cmp b a) ≡ false
from_le a b le = by_tests (int_lt b a) (int_lt a b) refl refl
  where
    by_tests : (t u : Bool) → int_lt b a ≡ t → int_lt a b ≡ u → is_lt (cond t Less (cond u Greater Equal)) ≡ false
    by_tests true u g h = absurd (grind (arith, ints, g, le))
    by_tests false true g h = refl
    by_tests false false g h = refl

le_false : (a b : ℤ) → int_le a b ≡ false → b ≤ℤ a
le_false a b e = grind (arith, ints, e)

le_self : (a : ℤ) → a ≤ℤ a
le_self a = omega (arith, ints)

le_trans : (a b c : ℤ) → a ≤ℤ b → b ≤ℤ c → a ≤ℤ c
le_trans a b c h k = omega (arith, ints)

-- not both ways
le_both : (a b : ℤ) → int_le a b ≡ false → a ≤ℤ b → true ≡ false
le_both a b e h = absurd (grind (arith, ints, e, h))

pub all_put : (P : Listed → Type 0) (x : Listed) (ys : List Listed) → P x → AllByRecursion P ys
    → AllByRecursion P (put_by_day x ys)
all_put P x [] p h = (p, tt)
all_put P x (y ∷ ys) p h = by_test (int_le x.day.0 y.day.0) (all_put P x ys p h.1)
  where
    by_test : (b : Bool) → AllByRecursion P (put_by_day x ys)
        → AllByRecursion P (if b then x ∷ (y ∷ ys) else y ∷ put_by_day x ys)
    by_test true k = (p, h)
    by_test false k = (h.0, k)

pub all_by_day : (P : Listed → Type 0) (xs : List Listed) → AllByRecursion P xs → AllByRecursion P (by_day xs)
all_by_day P [] h = tt
all_by_day P (x ∷ xs) h = all_put P x (by_day xs) h.0 (all_by_day P xs h.1)

none_earlier_trans : (x y : Listed) (ys : List Listed) → x.day.0 ≤ℤ y.day.0
    → AllByRecursion (λ (w : Listed). earlier w y ≡ false) ys → AllByRecursion (λ (w : Listed). earlier w x ≡ false) ys
none_earlier_trans x y [] le h = tt
none_earlier_trans x y (w ∷ ws) le h = (
  from_le x.day.0 w.day.0
      (le_trans x.day.0 y.day.0 w.day.0 le (not_below_day w.day.0 y.day.0 (earlier w y) refl h.0)),
  none_earlier_trans x y ws le h.1,
)

put_in_order : (x : Listed) (ys : List Listed) → InOrder earlier ys → InOrder earlier (put_by_day x ys)
put_in_order x [] h = (tt, tt)
put_in_order x (y ∷ ys) h = by_test (int_le x.day.0 y.day.0) refl (put_in_order x ys h.1)
  where
    by_test : (b : Bool) → int_le x.day.0 y.day.0 ≡ b → InOrder earlier (put_by_day x ys)
        → InOrder earlier (if b then x ∷ (y ∷ ys) else y ∷ put_by_day x ys)
    by_test true e k =
        let le = le_from_int_le x.day.0 y.day.0 e in ((from_le x.day.0 y.day.0 le, none_earlier_trans x y ys le h.0), h)
    by_test false e k = (
      all_put (λ (w : Listed). earlier w y ≡ false) x ys
          (from_le y.day.0 x.day.0 (le_false x.day.0 y.day.0 e)) h.0,
      k,
    )

by_day_in_order : (xs : List Listed) → InOrder earlier (by_day xs)
by_day_in_order [] = tt
by_day_in_order (x ∷ xs) = put_in_order x (by_day xs) (by_day_in_order xs)

-- what ties with one day is of that day
tie_parts : (a b : Bool) → (not a && not b) ≡ true → (a ≡ false) × (b ≡ false)
tie_parts true b e = absurd (cc)
tie_parts false true e = absurd (cc)
tie_parts false false e = (refl, refl)

tie_le : (w x y : Listed) → ties earlier w x ≡ true → ties earlier w y ≡ true → x.day.0 ≤ℤ y.day.0
tie_le w x y e f =
    let one = tie_parts (earlier w x) (earlier x w) e in
    let two = tie_parts (earlier w y) (earlier y w) f in
    le_trans x.day.0 w.day.0 y.day.0 (not_below_day w.day.0 x.day.0 (earlier w x) refl one.0)
    (not_below_day y.day.0 w.day.0 (earlier y w) refl two.1)

put_stable : (w x : Listed) (ys : List Listed)
    → filter (ties earlier w) (put_by_day x ys) ≡ filter (ties earlier w) (x ∷ ys)
put_stable w x [] = refl
put_stable w x (y ∷ ys) = by_test (int_le x.day.0 y.day.0) refl (put_stable w x ys)
  where
    f : List Listed
    f = filter (ties earlier w) ys

    by_ties : (a b : Bool) → ties earlier w x ≡ a → ties earlier w y ≡ b → int_le x.day.0 y.day.0 ≡ false
        → cond b (y ∷ cond a (x ∷ f) f) (cond a (x ∷ f) f) ≡ cond a (x ∷ cond b (y ∷ f) f) (cond b (y ∷ f) f)
    by_ties true true p q e = absurd (let no = le_both x.day.0 y.day.0 e (tie_le w x y p q) in cc)
    by_ties true false p q e = refl
    by_ties false true p q e = refl
    by_ties false false p q e = refl

    by_test : (b : Bool) → int_le x.day.0 y.day.0 ≡ b
        → filter (ties earlier w) (put_by_day x ys) ≡ filter (ties earlier w) (x ∷ ys)
        → filter (ties earlier w) (if b then x ∷ (y ∷ ys) else y ∷ put_by_day x ys)
        ≡ filter (ties earlier w) (x ∷ (y ∷ ys))
    by_test true e k = refl
    by_test false e k =
        ap (λ (l : List Listed). cond (ties earlier w y) (y ∷ l) l) k ∙ by_ties (ties earlier w x) (ties earlier w y)
        refl refl e

by_day_stable : (w : Listed) (xs : List Listed) → filter (ties earlier w) (by_day xs) ≡ filter (ties earlier w) xs
by_day_stable w [] = refl
by_day_stable w (x ∷ xs) =
    put_stable w x (by_day xs) ∙ ap (λ (l : List Listed). cond (ties earlier w x) (x ∷ l) l) (by_day_stable w xs)

-- a stable sort by day gives the list in order of day
pub sorted_by_day : (xs ys : List Listed) → IsSortedByKey (λ (x : Listed). x.day.0) int_cmp ys
    → IsStableByKey (λ (x : Listed). x.day.0) int_cmp xs ys → ys ≡ by_day xs
sorted_by_day xs ys sorted stable =
    one_order earlier (λ x. from_le x.day.0 x.day.0 (le_self x.day.0)) ys (by_day xs)
    (in_order earlier ys (λ i j d le below.
    sorted_far earlier (ranks_by int_cmp_total (λ (x : Listed). x.day.0)) ys sorted i j d le below))
    (by_day_in_order xs) (λ w. stable w ∙ sym (by_day_stable w xs))

-- what `sort_by_key` ensures, where each call gives the day of the element
pub by_day_from_sort : {F : Type 0} {g : Mut F (Bor Listed × Unit {0}) ℤ} {f : F} (xs ys : List Listed)
    → IsSortedByKeyClosure g int_cmp f ys → IsStableByKeyClosure g int_cmp f xs ys
    → ((a : Bor Listed × Unit {0}) (r : ℤ) (f' : F) → Called g f a r f' → (r ≡ a.0.now.day.0) × (f' ≡ f))
    → ys ≡ by_day xs
by_day_from_sort {g = g} {f = f} xs ys sorted stable h =
    let computes = always_returns_same g (λ a r. r ≡ a.0.now.day.0) f h in
    sorted_by_day xs ys (sorted (λ (x : Listed). x.day.0) computes) (stable (λ (x : Listed). x.day.0) computes)
