-- sums by day of accounts and those above them
use Rattle.std.proofs.Common.{◌≡◌, ℕ, ◌+◌, ◌-◌, ◌<◌, ◌≤◌, Bool, true, false, ◌||◌, ◌&&◌, List, [], ◌∷◌, ◌++◌, length}
use Rattle.std.proofs.Common.{take, drop, add-one, get_or, zero, suc, arith, refl, ap, ◌∙◌, sym, subst}
use Rattle.std.proofs.Common.{nat_eq, nat_lt, ◌⊎◌, inl, inr, ℤ, pos, negsuc, ◌+ℤ◌}
use Rattle.std.specs.Prelude.{if◌then◌else◌, unsigned_abs}
use Rattle.std.specs.List.{starts_with}
use Rattle.std.specs.Str.{bytes_eq}
use Rattle.std.proofs.lemmas.Bool.{cases_lt}
use Rattle.std.proofs.lemmas.Int.{ints}
use Rattle.std.proofs.lemmas.Bool.Decides.{nat_tests}
use Rattle.std.proofs.lemmas.Slice.Eq.{bytes_eq-Decides}
use Rattle.money_core.specs.declared.unit.Unit.{Unit as Commodity}
use Rattle.money_core.specs.declared.day.Day.{Day}
use Rattle.money_core.proofs.ListLemmas.{drop_at}
use Rattle.day_sums.specs.declared.sums.DaySums.{DaySums}
use Rattle.day_sums.specs.declared.period.Period.{Period}
use Rattle.day_sums.specs.Period.{is_in}
use Rattle.day_sums.specs.Sums.{period_sum, is_open, share_of, SameSums, RaisedSums, IsSmall}
use Rattle.day_sums.specs.Points.{IsUpTo}
use Rattle.book_core.specs.declared.leg.Leg.{Leg}
use Rattle.book_core.specs.declared.account.Reach.{Reach}
use Rattle.book_core.specs.declared.account.Reach.TheVariants.{Own, Inside}
use Rattle.book_core.specs.Account.{reaches, is_inside, colon}
use Rattle.book_core.specs.Balance.{moved, sum_in}
use Rattle.book_core.specs.GoodBook.{most_turnover}
use Rattle.book_core.specs.DayRows.{FrontsOpen, IsOpen, AreOpen, Raised, AreRaised, HasRoomFor}

-- ---- the same sums, step by step
pub same_none : (rows : DaySums) → SameSums rows rows
same_none rows = record { sums = λ a u p. refl; opened = λ a u d k h. h }

pub same_more : (old mid now : DaySums) → SameSums old mid → SameSums mid now → SameSums old now
same_more old mid now h k =
    record { sums = λ a u p. k.sums a u p ∙ h.sums a u p; opened = λ a u d n e. k.opened a u d n (h.opened a u d n e) }

pub fronts_kept : (old now : DaySums) (name : List ℕ) (unit : Commodity) (day : Day) (n : ℕ) (i : ℕ)
    → ((a : List ℕ) (u : Commodity) (d : Day) (k : ℕ) → is_open old a u d k ≡ true → is_open now a u d k ≡ true)
    → FrontsOpen old name unit day n i → FrontsOpen now name unit day n i
fronts_kept old now name unit day n i days h j l e = days (take j name) unit day n (h j l e)

-- one more byte
pub fronts_colon : (rows : DaySums) (name : List ℕ) (unit : Commodity) (day : Day) (n : ℕ) (i : ℕ)
    → is_open rows (take i name) unit day n ≡ true → FrontsOpen rows name unit day n i
    → FrontsOpen rows name unit day n (i + 1)
fronts_colon rows name unit day n i h k j l e = by_place (cases_lt j i)
  where
    by_place : (j < i) ⊎ (i ≤ j) → is_open rows (take j name) unit day n ≡ true
    by_place (inl m) = k j m e
    by_place (inr m) = let same : j ≡ i = omega arith in ap (λ (m : ℕ). is_open rows (take m name) unit day n) same ∙ h

pub fronts_other : (rows : DaySums) (name : List ℕ) (unit : Commodity) (day : Day) (n : ℕ) (i : ℕ)
    → (get_or name i 0 ≡ colon → ⊥) → FrontsOpen rows name unit day n i → FrontsOpen rows name unit day n (i + 1)
fronts_other rows name unit day n i h k j l e = by_place (cases_lt j i)
  where
    by_place : (j < i) ⊎ (i ≤ j) → is_open rows (take j name) unit day n ≡ true
    by_place (inl m) = k j m e
    by_place (inr m) = let same : j ≡ i = omega arith in absurd (h (ap (λ (m : ℕ). get_or name m 0) (sym same) ∙ e))

pub is_open_kept : (reach : Reach) (old now : DaySums) (name : List ℕ) (unit : Commodity) (day : Day) (n : ℕ)
    → ((a : List ℕ) (u : Commodity) (d : Day) (k : ℕ) → is_open old a u d k ≡ true → is_open now a u d k ≡ true)
    → IsOpen reach old name unit day n → IsOpen reach now name unit day n
is_open_kept Own old now name unit day n days h = days name unit day n h
is_open_kept Inside old now name unit day n days h =
    (fronts_kept old now name unit day n (length name) days h.0, days name unit day n h.1)

pub are_open_kept : (reach : Reach) (old now : DaySums) (legs : List Leg) (day : Day) (n : ℕ)
    → ((a : List ℕ) (u : Commodity) (d : Day) (k : ℕ) → is_open old a u d k ≡ true → is_open now a u d k ≡ true)
    → AreOpen reach old legs day n → AreOpen reach now legs day n
are_open_kept reach old now [] day n days h = tt
are_open_kept reach old now (x ∷ xs) day n days h =
    (is_open_kept reach old now x.account x.unit day n days h.0, are_open_kept reach old now xs day n days h.1)

open_next : (reach : Reach) (rows : DaySums) (legs : List Leg) (day : Day) (n : ℕ) (i : ℕ) (x : Leg) → i < length legs
    → x ≡ get_or legs i x → AreOpen reach rows (take i legs) day n → IsOpen reach rows x.account x.unit day n
    → AreOpen reach rows (take (suc i) legs) day n
open_next reach rows [] day n i x l e h k = absurd (omega arith)
open_next reach rows (y ∷ ys) day n zero x l e h k =
    (subst (λ (z : Leg). IsOpen reach rows z.account z.unit day n) e k, tt)
open_next reach rows (y ∷ ys) day n (suc i) x l e h k = (h.0, open_next reach rows ys day n i x (omega arith) e h.1 k)

pub open_more : (reach : Reach) (rows : DaySums) (legs : List Leg) (day : Day) (n : ℕ) (i : ℕ) (x : Leg)
    → i < length legs → x ≡ get_or legs i x → AreOpen reach rows (take i legs) day n
    → IsOpen reach rows x.account x.unit day n → AreOpen reach rows (take (i + 1) legs) day n
open_more reach rows legs day n i x l e h k =
    subst (λ (j : ℕ). AreOpen reach rows (take j legs) day n) (sym (add-one i))
    (open_next reach rows legs day n i x l e h k)

-- ---- the fronts of a name
-- a is a front of the name that ends before one of its first i bytes, a colon
abbrev pub is_front : ℕ → List ℕ → List ℕ → Bool
is_front i name a = nat_lt (length a) i && starts_with nat_eq name (a ++ colon ∷ [])

and_false : (t : Bool) → (t && false) ≡ false
and_false true = refl
and_false false = refl

front_take : (name : List ℕ) (i : ℕ) → i < length name → get_or name i 0 ≡ colon
    → starts_with nat_eq name (take i name ++ colon ∷ []) ≡ true
front_take [] i h e = absurd (omega arith)
front_take (x ∷ xs) zero h e = rw e refl
front_take (x ∷ xs) (suc i) h e =
    let t : nat_eq x x ≡ true = grind (arith, nat_tests) in rw (t, front_take xs i (omega arith) e) refl

front_is : (name a : List ℕ) → starts_with nat_eq name (a ++ colon ∷ []) ≡ true
    → (take (length a) name ≡ a) × (length a < length name) × (get_or name (length a) 0 ≡ colon)
front_is [] [] h = absurd (cc)
front_is [] (y ∷ ys) h = absurd (cc)
front_is (x ∷ xs) [] h = (refl, omega arith, first (nat_eq 58 x) refl h)
  where
    first : (t : Bool) → nat_eq 58 x ≡ t → (t && true) ≡ true → x ≡ 58
    first true e k = grind (arith, nat_tests)
    first false e k = absurd (cc)
front_is (x ∷ xs) (y ∷ ys) h = by_test (nat_eq y x) refl h (λ k. front_is xs ys k)
  where
    by_test : (t : Bool) → nat_eq y x ≡ t → (t && starts_with nat_eq xs (ys ++ colon ∷ [])) ≡ true
        → (starts_with nat_eq xs (ys ++ colon ∷ []) ≡ true
        → (take (length ys) xs ≡ ys) × (length ys < length xs) × (get_or xs (length ys) 0 ≡ colon)) →
        (take (length (y ∷ ys)) (x ∷ xs) ≡ y ∷ ys) × (length (y ∷ ys) < length (x ∷ xs))
        × (get_or (x ∷ xs) (length (y ∷ ys)) 0 ≡ colon)
    by_test true e k more =
        let m = more k in
        let s : x ≡ y = grind (arith, nat_tests) in
        (ap (λ (zs : List ℕ). x ∷ zs) m.0 ∙ ap (λ (z : ℕ). z ∷ ys) s, omega (arith, m.1), m.2)
    by_test false e k more = absurd (cc)

length-take : (xs : List ℕ) (i : ℕ) → i ≤ length xs → length (take i xs) ≡ i
length-take xs zero h = refl
length-take [] (suc i) h = absurd (omega arith)
length-take (x ∷ xs) (suc i) h = ap suc (length-take xs i (omega arith))

pub front_colon : (name a : List ℕ) (i : ℕ) → i < length name → get_or name i 0 ≡ colon
    → (is_front (i + 1) name a ≡ (is_front i name a || bytes_eq (take i name) a))
    × (bytes_eq (take i name) a ≡ true → is_front i name a ≡ false)
front_colon name a i h e = by_test (bytes_eq (take i name) a) refl
  where
    by_test : (t : Bool) → bytes_eq (take i name) a ≡ t
        → (is_front (i + 1) name a ≡ (is_front i name a || t)) × (t ≡ true → is_front i name a ≡ false)
    by_test true f =
        let same : take i name ≡ a = (bytes_eq-Decides (take i name) a).0 f in
        let n : length a ≡ i = sym (ap (λ (zs : List ℕ). length zs) same) ∙ length-take name i (omega arith) in
        let long : nat_lt (length a) (i + 1) ≡ true = grind (arith, nat_tests) in
        let short : nat_lt (length a) i ≡ false = grind (arith, nat_tests) in
        let begins : starts_with nat_eq name (a ++ colon ∷ []) ≡ true =
        subst (λ (zs : List ℕ). starts_with nat_eq name (zs ++ colon ∷ []) ≡ true) same (front_take name i h e) in
        (rw (long, short, begins) refl, λ k. rw short refl)
    by_test false f = (by_starts (starts_with nat_eq name (a ++ colon ∷ [])) refl, λ k. absurd (cc))
      where
        or_false : (t : Bool) → t ≡ (t || false)
        or_false true = refl
        or_false false = refl

        other : starts_with nat_eq name (a ++ colon ∷ []) ≡ true → length a ≡ i → ⊥
        other s n = let g : bytes_eq (take i name) a ≡ true =
            (bytes_eq-Decides (take i name) a).1 (ap (λ (k : ℕ). take k name) (sym n) ∙ (front_is name a s).0) in absurd
            (cc)

        by_order : starts_with nat_eq name (a ++ colon ∷ []) ≡ true → (length a < i) ⊎ (i ≤ length a)
            → (i < length a) ⊎ (length a ≤ i) → nat_lt (length a) (i + 1) ≡ nat_lt (length a) i
        by_order s (inl m) n = let p : nat_lt (length a) (i + 1) ≡ true =
            grind (arith, nat_tests) in let q : nat_lt (length a) i ≡ true = grind (arith, nat_tests) in p ∙ sym q
        by_order s (inr m) (inl n) = let p : nat_lt (length a) (i + 1) ≡ false =
            grind (arith, nat_tests) in let q : nat_lt (length a) i ≡ false = grind (arith, nat_tests) in p ∙ sym q
        by_order s (inr m) (inr n) = absurd (other s (omega arith))

        by_starts : (t : Bool) → starts_with nat_eq name (a ++ colon ∷ []) ≡ t
            → (nat_lt (length a) (i + 1) && t) ≡ ((nat_lt (length a) i && t) || false)
        by_starts true s = ap (λ (b : Bool). b && true) (by_order s (cases_lt (length a) i) (cases_lt i (length a))) ∙
            or_false (nat_lt (length a) i && true)
        by_starts false s = and_false (nat_lt (length a) (i + 1)) ∙ or_false false ∙ ap (λ (b : Bool). b || false)
            (sym (and_false (nat_lt (length a) i)))

pub front_other : (name a : List ℕ) (i : ℕ) → (get_or name i 0 ≡ colon → ⊥)
    → is_front (i + 1) name a ≡ is_front i name a
front_other name a i h = by_starts (starts_with nat_eq name (a ++ colon ∷ [])) refl
  where
    by_order : starts_with nat_eq name (a ++ colon ∷ []) ≡ true → (length a < i) ⊎ (i ≤ length a)
        → (i < length a) ⊎ (length a ≤ i) → nat_lt (length a) (i + 1) ≡ nat_lt (length a) i
    by_order s (inl m) n = let p : nat_lt (length a) (i + 1) ≡ true =
        grind (arith, nat_tests) in let q : nat_lt (length a) i ≡ true = grind (arith, nat_tests) in p ∙ sym q
    by_order s (inr m) (inl n) = let p : nat_lt (length a) (i + 1) ≡ false =
        grind (arith, nat_tests) in let q : nat_lt (length a) i ≡ false = grind (arith, nat_tests) in p ∙ sym q
    by_order s (inr m) (inr n) = let same : length a ≡ i =
        omega arith in absurd (h (ap (λ (k : ℕ). get_or name k 0) (sym same) ∙ (front_is name a s).2))

    by_starts : (t : Bool) → starts_with nat_eq name (a ++ colon ∷ []) ≡ t
        → (nat_lt (length a) (i + 1) && t) ≡ (nat_lt (length a) i && t)
    by_starts true s = ap (λ (b : Bool). b && true) (by_order s (cases_lt (length a) i) (cases_lt i (length a)))
    by_starts false s = and_false (nat_lt (length a) (i + 1)) ∙ sym (and_false (nat_lt (length a) i))

pub front_all : (name a : List ℕ) (i : ℕ) → length name ≤ i
    → (is_inside a name ≡ (is_front i name a || bytes_eq name a)) × (bytes_eq name a ≡ true → is_front i name a ≡ false)
front_all name a i h = by_tests (bytes_eq name a) (starts_with nat_eq name (a ++ colon ∷ [])) refl refl
  where
    not_both : bytes_eq name a ≡ true → starts_with nat_eq name (a ++ colon ∷ []) ≡ true → ⊥
    not_both e s = let same : name ≡ a = (bytes_eq-Decides name a).0 e in let l =
        ap (λ (zs : List ℕ). length zs) same in omega (arith, (front_is name a s).1)

    by_tests : (t u : Bool) → bytes_eq name a ≡ t → starts_with nat_eq name (a ++ colon ∷ []) ≡ u
        → ((t || u) ≡ ((nat_lt (length a) i && u) || t)) × (t ≡ true → (nat_lt (length a) i && u) ≡ false)
    by_tests true true e s = absurd (not_both e s)
    by_tests true false e s =
        (sym (ap (λ (b : Bool). b || true) (and_false (nat_lt (length a) i))), λ k. and_false (nat_lt (length a) i))
    by_tests false true e s = let n : nat_lt (length a) i ≡ true =
        (let m = (front_is name a s).1 in grind (arith, nat_tests)) in (rw n refl, λ k. absurd (cc))
    by_tests false false e s = (sym (ap (λ (b : Bool). b || false) (and_false (nat_lt (length a) i))), λ k. absurd (cc))

-- ---- sums of the fronts
abbrev pub part : Bool → Bool → Bool → ℤ → ℤ
part unit front on q = if (unit && front) && on then q else pos 0

-- the sums of the fronts among the first i bytes are raised
pub record RaisedFronts (name : List ℕ) (unit : Commodity) (day : Day) (n : ℕ) (q : ℤ) (i : ℕ)
    (old now : DaySums) : Type 0 where
  pub sums : (a : List ℕ) (u : Commodity) (p : Period)
      → period_sum now a u p ≡ period_sum old a u p +ℤ part (nat_eq unit.0 u.0) (is_front i name a) (is_in p day n) q
  pub opened : (a : List ℕ) (u : Commodity) (d : Day) (k : ℕ) → is_open old a u d k ≡ true → is_open now a u d k ≡ true

two_parts : (unit front new on : Bool) (q z : ℤ) → (new ≡ true → front ≡ false)
    → (z +ℤ part unit front on q) +ℤ part unit new on q ≡ z +ℤ part unit (front || new) on q
two_parts false front new on q z h = omega (arith, ints)
two_parts true true true on q z h = absurd (let k = h refl in cc)
two_parts true true false on q z h = omega (arith, ints)
two_parts true false new on q z h = omega (arith, ints)

pub raised_none : (name : List ℕ) (unit : Commodity) (day : Day) (n : ℕ) (q : ℤ) (rows : DaySums)
    → RaisedFronts name unit day n q 0 rows rows
raised_none name unit day n q rows = record { sums = none; opened = λ a u d k h. h }
  where
    none : (a : List ℕ) (u : Commodity) (p : Period)
        → period_sum rows a u p ≡ period_sum rows a u p +ℤ part (nat_eq unit.0 u.0) (is_front 0 name a) (is_in p day n)
        q
    none a u p =
        let l : nat_lt (length a) 0 ≡ false = grind (arith, nat_tests) in
        by_unit (nat_eq unit.0 u.0) (is_front 0 name a) (rw l refl)
      where
        by_unit : (t f : Bool) → f ≡ false → period_sum rows a u p ≡ period_sum rows a u p +ℤ part t f (is_in p day n) q
        by_unit true true e = absurd (cc)
        by_unit true false e = omega (arith, ints)
        by_unit false f e = omega (arith, ints)

pub raised_colon : (name : List ℕ) (unit : Commodity) (day : Day) (n : ℕ) (q : ℤ) (i : ℕ) (old mid now : DaySums)
    → i < length name → get_or name i 0 ≡ colon → RaisedFronts name unit day n q i old mid
    → RaisedSums (take i name) unit day n q mid now → RaisedFronts name unit day n q (i + 1) old now
raised_colon name unit day n q i old mid now h e k m = record {
  sums = λ a u p.
      m.sums a u p ∙ ap (λ (z : ℤ). z +ℤ share_of (take i name) unit day n q a u p) (k.sums a u p) ∙ two_parts
      (nat_eq unit.0 u.0) (is_front i name a) (bytes_eq (take i name) a) (is_in p day n) q (period_sum old a u p)
      (front_colon name a i h e).1
      ∙ ap (λ (t : Bool). period_sum old a u p +ℤ part (nat_eq unit.0 u.0) t (is_in p day n) q)
      (sym (front_colon name a i h e).0);
  opened = λ a u d j g. m.opened a u d j (k.opened a u d j g);
}

pub raised_other : (name : List ℕ) (unit : Commodity) (day : Day) (n : ℕ) (q : ℤ) (i : ℕ) (old now : DaySums)
    → (get_or name i 0 ≡ colon → ⊥) → RaisedFronts name unit day n q i old now
    → RaisedFronts name unit day n q (i + 1) old now
raised_other name unit day n q i old now h k = record {
  sums = λ a u p. k.sums a u p ∙ ap (λ (t : Bool). period_sum old a u p +ℤ part (nat_eq unit.0 u.0) t (is_in p day n) q)
      (sym (front_other name a i h));
  opened = k.opened;
}

pub raised_all : (name : List ℕ) (unit : Commodity) (day : Day) (n : ℕ) (q : ℤ) (i : ℕ) (old mid now : DaySums)
    → length name ≤ i → RaisedFronts name unit day n q i old mid → RaisedSums name unit day n q mid now
    → Raised Inside name unit day n q old now
raised_all name unit day n q i old mid now h k m = record {
  sums = λ a u p.
      m.sums a u p ∙ ap (λ (z : ℤ). z +ℤ share_of name unit day n q a u p) (k.sums a u p) ∙ two_parts
      (nat_eq unit.0 u.0) (is_front i name a) (bytes_eq name a) (is_in p day n) q (period_sum old a u p)
      (front_all name a i h).1
      ∙ ap (λ (t : Bool). period_sum old a u p +ℤ part (nat_eq unit.0 u.0) t (is_in p day n) q)
      (sym (front_all name a i h).0);
  opened = λ a u d j g. m.opened a u d j (k.opened a u d j g);
}

-- what is still to be raised has its old sums
pub small_front : (name : List ℕ) (unit : Commodity) (day : Day) (n : ℕ) (q : ℤ) (i : ℕ) (old now : DaySums)
    (a : List ℕ) → is_front i name a ≡ false → RaisedFronts name unit day n q i old now
    → ((b : List ℕ) (p : Period) → IsSmall (period_sum old b unit p)) → (p : Period) → IsSmall (period_sum now a unit p)
small_front name unit day n q i old now a e k small p =
    subst IsSmall (sym (k.sums a unit p ∙ by_unit (nat_eq unit.0 unit.0) (is_front i name a) e)) (small a p)
  where
    by_unit : (t f : Bool) → f ≡ false → period_sum old a unit p +ℤ part t f (is_in p day n) q ≡ period_sum old a unit p
    by_unit true true g = absurd (cc)
    by_unit true false g = omega (arith, ints)
    by_unit false f g = omega (arith, ints)

pub front_itself : (name a : List ℕ) (i : ℕ) → i ≤ length a → is_front i name a ≡ false
front_itself name a i h = let n : nat_lt (length a) i ≡ false = grind (arith, nat_tests) in rw n refl

pub take_length : (name : List ℕ) (i : ℕ) → i < length name → i ≤ length (take i name)
take_length name i h = omega (arith, length-take name i (omega arith))

-- ---- the legs of an entry, one after another
pub own_raised : (name : List ℕ) (unit : Commodity) (day : Day) (n : ℕ) (q : ℤ) (old now : DaySums)
    → RaisedSums name unit day n q old now → Raised Own name unit day n q old now
own_raised name unit day n q old now h = record { sums = h.sums; opened = h.opened }

pub open_at : (reach : Reach) (rows : DaySums) (legs : List Leg) (day : Day) (n : ℕ) (i : ℕ) (x : Leg)
    → AreOpen reach rows legs day n → i < length legs → x ≡ get_or legs i x → IsOpen reach rows x.account x.unit day n
open_at reach rows [] day n i x h l e = absurd (omega arith)
open_at reach rows (y ∷ ys) day n zero x h l e =
    subst (λ (z : Leg). IsOpen reach rows z.account z.unit day n) (sym e) h.0
open_at reach rows (y ∷ ys) day n (suc i) x h l e = open_at reach rows ys day n i x h.1 (omega arith) e

upto_add : (m n k : ℕ) (z q : ℤ) → IsUpTo m z → unsigned_abs q ≡ n → m + n ≤ k → IsUpTo k (z +ℤ q)
upto_add m n k z (pos x) h e l =
    let a = h.low in let b = h.high in record { low = omega (arith, ints); high = omega (arith, ints) }
upto_add m n k z (negsuc x) h e l =
    let a = h.low in let b = h.high in record { low = omega (arith, ints); high = omega (arith, ints) }

upto_more : (m k : ℕ) (z : ℤ) → IsUpTo m z → m ≤ k → IsUpTo k z
upto_more m k z h l =
    let a = h.low in let b = h.high in record { low = omega (arith, ints); high = omega (arith, ints) }

pub upto_small : (m : ℕ) (z : ℤ) → IsUpTo m z → m ≤ most_turnover → IsSmall z
upto_small m z h l = let a = h.low in let b = h.high in record { low = omega (arith, ints); high = omega (arith, ints) }

pub abs_small : (q : ℤ) → unsigned_abs q ≤ most_turnover → IsSmall q
abs_small (pos x) h = record { low = omega (arith, ints); high = omega (arith, ints) }
abs_small (negsuc x) h = record { low = omega (arith, ints); high = omega (arith, ints) }

pub moved_own : (x : Leg) (rest : List Leg) → moved x.unit (x ∷ rest) ≡ unsigned_abs x.qty + moved x.unit rest
moved_own x rest = let t : nat_eq x.unit.0 x.unit.0 ≡ true = grind (arith, nat_tests) in rw t refl

-- how far the legs are added
pub record Adding (reach : Reach) (legs : List Leg) (day : Day) (n : ℕ) (i : ℕ) (old now : DaySums) : Type 0 where
  pub room : HasRoomFor now (drop i legs)
  pub sums : (a : List ℕ) (u : Commodity) (p : Period)
      → period_sum now a u p +ℤ (if is_in p day n then sum_in reach a u (drop i legs) else pos 0)
      ≡ period_sum old a u p +ℤ (if is_in p day n then sum_in reach a u legs else pos 0)

pub adding_none : (reach : Reach) (legs : List Leg) (day : Day) (n : ℕ) (rows : DaySums) → HasRoomFor rows legs
    → Adding reach legs day n 0 rows rows
adding_none reach legs day n rows h = record { room = h; sums = λ a u p. refl }

pub adding_small : (reach : Reach) (legs : List Leg) (day : Day) (n : ℕ) (i : ℕ) (old now : DaySums)
    → Adding reach legs day n i old now → (a : List ℕ) (u : Commodity) (p : Period) → IsSmall (period_sum now a u p)
adding_small reach legs day n i old now h a u p = upto_small _ (period_sum now a u p) (h.room.sums a u p) (omega arith)

pub adding_qty : (reach : Reach) (legs : List Leg) (day : Day) (n : ℕ) (i : ℕ) (x : Leg) (old now : DaySums)
    → Adding reach legs day n i old now → i < length legs → x ≡ get_or legs i x → IsSmall x.qty
adding_qty reach legs day n i x old now h l e =
    abs_small x.qty
    (omega (
      arith,
      h.room.legs_small x.unit,
      ap (moved x.unit) (drop_at legs i x l e) ∙ moved_own x (drop (i + 1) legs),
    ))

pub adding_more : (reach : Reach) (legs : List Leg) (day : Day) (n : ℕ) (i : ℕ) (x : Leg) (old mid now : DaySums)
    → i < length legs → x ≡ get_or legs i x → Adding reach legs day n i old mid
    → Raised reach x.account x.unit day n x.qty mid now → Adding reach legs day n (i + 1) old now
adding_more reach legs day n i x old mid now l e h k = record {
  room = record {
    sums = λ a u p. subst (IsUpTo (most_turnover - moved u rest)) (sym (k.sums a u p))
        (one_up (nat_eq x.unit.0 u.0) (reaches reach a x.account) (is_in p day n) (moved u rest) (period_sum mid a u p)
        (subst (λ (ls : List Leg). moved u ls ≤ most_turnover) parts (h.room.legs_small u))
        (subst (λ (ls : List Leg). IsUpTo (most_turnover - moved u ls) (period_sum mid a u p)) parts
        (h.room.sums a u p)));
    legs_small = λ u. omega (arith, h.room.legs_small u, ap (moved u) parts);
  };
  sums = λ a u p.
      ap (λ (z : ℤ). z +ℤ (if is_in p day n then sum_in reach a u rest else pos 0)) (k.sums a u p)
      ∙ join (nat_eq x.unit.0 u.0 && reaches reach a x.account) (is_in p day n) (period_sum mid a u p)
      (sum_in reach a u rest)
      ∙ ap (λ (ls : List Leg). period_sum mid a u p +ℤ (if is_in p day n then sum_in reach a u ls else pos 0))
      (sym parts) ∙ h.sums a u p;
}
  where
    rest : List Leg
    rest = drop (i + 1) legs

    parts : drop i legs ≡ x ∷ rest
    parts = drop_at legs i x l e

    one_up : (t r on : Bool) (m : ℕ) (z : ℤ) → (if t then unsigned_abs x.qty else 0) + m ≤ most_turnover
        → IsUpTo (most_turnover - ((if t then unsigned_abs x.qty else 0) + m)) z
        → IsUpTo (most_turnover - m) (z +ℤ (if (t && r) && on then x.qty else pos 0))
    one_up true true true m z b w = upto_add _ (unsigned_abs x.qty) (most_turnover - m) z x.qty w refl (omega arith)
    one_up true true false m z b w = upto_add _ 0 (most_turnover - m) z (pos 0) w refl (omega arith)
    one_up true false on m z b w = upto_add _ 0 (most_turnover - m) z (pos 0) w refl (omega arith)
    one_up false r on m z b w = upto_add _ 0 (most_turnover - m) z (pos 0) w refl (omega arith)

    join : (t on : Bool) (z s : ℤ) → (z +ℤ (if t && on then x.qty else pos 0)) +ℤ (if on then s else pos 0)
        ≡ z +ℤ (if on then (if t then x.qty else pos 0) +ℤ s else pos 0)
    join true true z s = omega (arith, ints)
    join true false z s = omega (arith, ints)
    join false on z s = by_on on
      where
        by_on : (b : Bool) → (z +ℤ pos 0) +ℤ (if b then s else pos 0) ≡ z +ℤ (if b then pos 0 +ℤ s else pos 0)
        by_on true = omega (arith, ints)
        by_on false = omega (arith, ints)

pub adding_all : (reach : Reach) (legs : List Leg) (day : Day) (n : ℕ) (i : ℕ) (old now : DaySums) → length legs ≤ i
    → Adding reach legs day n i old now → AreRaised reach legs day n old now
adding_all reach legs day n i old now h k a u p =
    by_day (is_in p day n) (period_sum now a u p) (sum_in reach a u (drop i legs)) none ∙ k.sums a u p
  where
    past : (xs : List Leg) (j : ℕ) → length xs ≤ j → drop j xs ≡ []
    past [] zero l = refl
    past [] (suc j) l = refl
    past (y ∷ ys) zero l = absurd (omega arith)
    past (y ∷ ys) (suc j) l = past ys j (omega arith)

    none : sum_in reach a u (drop i legs) ≡ pos 0
    none = ap (sum_in reach a u) (past legs i h)

    by_day : (t : Bool) (z s : ℤ) → s ≡ pos 0 → z ≡ z +ℤ (if t then s else pos 0)
    by_day true z s e = omega (arith, ints)
    by_day false z s e = omega (arith, ints)
