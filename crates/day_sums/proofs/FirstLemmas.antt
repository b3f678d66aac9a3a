-- A row whose first quantity stands in the row itself.
use Rattle.std.proofs.Common.{◌≡◌, ℕ, Bool, true, false, ◌&&◌, ◌||◌, List, [], ◌∷◌, refl, ap, ◌∙◌, sym, subst, arith, ℤ}
use Rattle.std.proofs.Common.{pos, negsuc, ◌+ℤ◌}
use Rattle.std.specs.Prelude.{if◌then◌else◌, int_le, int_lt, nat_le}
use Rattle.std.specs.Ordering.{int_eq}
use Rattle.std.proofs.lemmas.Int.{ints}
use Rattle.std.proofs.lemmas.Bool.Decides.{Decides-int_eq}
use Rattle.money_core.specs.declared.day.Day.{Day}
use Rattle.day_sums.specs.declared.points.Point.{Point}
use Rattle.day_sums.specs.declared.period.Period.{Period}
use Rattle.day_sums.specs.declared.period.Period.TheVariants.{Before, Through, Within}
use Rattle.day_sums.specs.Points.{is_none, point_sum, has_point, IsUpTo}
use Rattle.day_sums.specs.Period.{is_in}
use Rattle.day_sums.specs.Blocks.{points_at}
use Rattle.day_sums.specs.Row.{Kept, row_sum, one, whole, has_number, SameRow, RaisedRow}
use Rattle.day_sums.proofs.SearchLemmas.{lt_le}
use Rattle.day_sums.proofs.BlockLemmas.{points_one, one_day_sum, one_has_day}

-- ---- which of the two it is
pub whole_full : (day : Day) (n : ℕ) (q : ℤ) (r : Kept) → is_none r.0.0 ≡ false → whole day n q r ≡ r
whole_full day n q r h = rw h refl

pub whole_first : (day : Day) (n : ℕ) (q : ℤ) (r : Kept) → is_none r.0.0 ≡ true → whole day n q r ≡ one day n q
whole_first day n q r h = rw h refl

same_trans : (r s t : Kept) → SameRow r s → SameRow s t → SameRow r t
same_trans r s t h k = record { sums = λ p. k.sums p ∙ h.sums p; opened = λ d n e. k.opened d n (h.opened d n e) }

-- another number is opened in a row that has days
pub opened_full : (v : Kept) (day : Day) (n : ℕ) (q : ℤ) (r s : Kept) → whole day n q r ≡ v → is_none r.0.0 ≡ false
    → (is_none r.0.0 ≡ false → is_none s.0.0 ≡ false) → SameRow r s → SameRow v (whole day n q s)
opened_full v day n q r s e h days same =
    subst (λ (x : Kept). SameRow x (whole day n q s)) (sym (whole_full day n q r h) ∙ e)
    (subst (SameRow r) (sym (whole_full day n q s (days h))) same)

-- and in one that has none
pub opened_first : (v : Kept) (day : Day) (n : ℕ) (q : ℤ) (r s t : Kept) → whole day n q r ≡ v
    → is_none r.0.0 ≡ true → SameRow (one day n q) s → is_none s.0.0 ≡ false
    → (is_none s.0.0 ≡ false → is_none t.0.0 ≡ false)
    → SameRow s t → SameRow v (whole day n q t)
opened_first v day n q r s t e h first there days same =
    subst (λ (x : Kept). SameRow x (whole day n q t)) (sym (whole_first day n q r h) ∙ e)
    (subst (SameRow (one day n q)) (sym (whole_full day n q t (days there)))
    (same_trans (one day n q) s t first same))

-- ---- the first quantity is raised
-- the sum over a period
pub one_sum : (day : Day) (n : ℕ) (q : ℤ) (p : Period) → row_sum (one day n q) p ≡ (if is_in p day n then q else pos 0)
one_sum day n q (Before d) =
    one_day_sum day.0 q (d.0 +ℤ negsuc 0) ∙ ap (λ (t : Bool). if t then q else pos 0) (sym (lt_le day.0 d.0))
one_sum day n q (Through d) = one_day_sum day.0 q d.0
one_sum day n q (Within d k) = ap (λ (ps : List Point). point_sum (pos 0) ps (pos k))
    (points_one day.0 (record { at = pos n; sum = q } ∷ []) d.0) ∙ by_day (int_eq day.0 d.0)
  where
    by_day : (t : Bool) → point_sum (pos 0) (if t then record { at = pos n; sum = q } ∷ [] else []) (pos k)
        ≡ (if t && nat_le n k then q else pos 0)
    by_day true = refl
    by_day false = refl

one_has : (day : Day) (n : ℕ) (q : ℤ) (d : Day) (k : ℕ)
    → has_number (one day n q) d k
    ≡ ((int_eq day.0 d.0 || false)
    && has_point (pos k) (if int_eq day.0 d.0 then record { at = pos n; sum = q } ∷ [] else []))
one_has day n q d k = ap (λ (t : Bool).
    t && has_point (pos k) (points_at ((day.0, record { at = pos n; sum = q } ∷ []) ∷ []) d.0))
    (one_has_day day.0 q d.0)
    ∙ ap (λ (ps : List Point). (int_eq day.0 d.0 || false) && has_point (pos k) ps)
    (points_one day.0 (record { at = pos n; sum = q } ∷ []) d.0)

-- what is open is the quantity's own day and number
its_own : (day : Day) (n : ℕ) (q : ℤ) (d : Day) (k : ℕ) → has_number (one day n q) d k ≡ true
    → (day.0 ≡ d.0) × (pos n ≡ pos k)
its_own day n q d k h = by_tests (int_eq day.0 d.0) (int_eq (pos n) (pos k)) refl refl (sym (one_has day n q d k) ∙ h)
  where
    by_tests : (t u : Bool) → int_eq day.0 d.0 ≡ t → int_eq (pos n) (pos k) ≡ u
        → ((t || false) && has_point (pos k) (if t then record { at = pos n; sum = q } ∷ [] else [])) ≡ true
        → (day.0 ≡ d.0) × (pos n ≡ pos k)
    by_tests true true e f g = ((Decides-int_eq day.0 d.0).0 e, (Decides-int_eq (pos n) (pos k)).0 f)
    by_tests true false e f g =
        absurd (let w : has_point (pos k) (record { at = pos n; sum = q } ∷ []) ≡ false = rw f refl in cc)
    by_tests false u e f g = absurd (cc)

pub one_open : (day : Day) (n : ℕ) (q : ℤ) → has_number (one day n q) day n ≡ true
one_open day n q =
    one_has day n q day n ∙ rw ((Decides-int_eq day.0 day.0).1 refl, (Decides-int_eq (pos n) (pos n)).1 refl) refl

if_add : (t : Bool) (a q : ℤ) → (if t then a +ℤ q else pos 0) ≡ (if t then a else pos 0) +ℤ (if t then q else pos 0)
if_add true a q = refl
if_add false a q = omega (arith, ints)

kept_open : (t : Bool) (n : ℕ) (a b : ℤ) (k : ℕ)
    → ((t || false) && has_point (pos k) (if t then record { at = pos n; sum = a } ∷ [] else []))
    ≡ ((t || false) && has_point (pos k) (if t then record { at = pos n; sum = b } ∷ [] else []))
kept_open true n a b k = refl
kept_open false n a b k = refl

raised_one : (day : Day) (n : ℕ) (a q : ℤ) (d : Day) (k : ℕ) → has_number (one day n a) d k ≡ true
    → RaisedRow d k q (one day n a) (one day n (a +ℤ q))
raised_one day n a q d k h = record {
  sums = λ p. one_sum day n (a +ℤ q) p ∙ if_add (is_in p day n) a q ∙ ap
      (λ (z : ℤ). z +ℤ (if is_in p day n then q else pos 0)) (sym (one_sum day n a p)) ∙ ap
      (λ (t : Bool). row_sum (one day n a) p +ℤ (if t then q else pos 0)) (same p);
  opened =
      λ e j g. one_has day n (a +ℤ q) e j ∙ kept_open (int_eq day.0 e.0) n (a +ℤ q) a j ∙ sym (one_has day n a e j) ∙ g;
}
  where
    own : (day.0 ≡ d.0) × (pos n ≡ pos k)
    own = its_own day n a d k h

    number : n ≡ k
    number = let e = own.1 in omega (arith, ints)

    same : (p : Period) → is_in p day n ≡ is_in p d k
    same (Before e) = ap (λ (z : ℤ). int_lt z e.0) own.0
    same (Through e) = ap (λ (z : ℤ). int_le z e.0) own.0
    same (Within e j) =
        ap (λ (z : ℤ). int_eq z e.0 && nat_le n j) own.0 ∙ ap (λ (m : ℕ). int_eq d.0 e.0 && nat_le m j) number

pub raised_first : (v : Kept) (day : Day) (n : ℕ) (a q z : ℤ) (r : Kept) (d : Day) (k : ℕ) → whole day n a r ≡ v
    → is_none r.0.0 ≡ true → has_number v d k ≡ true → z ≡ a +ℤ q → RaisedRow d k q v (whole day n z r)
raised_first v day n a q z r d k e h there sum =
    let f : one day n a ≡ v = sym (whole_first day n a r h) ∙ e in
    subst (λ (x : Kept). RaisedRow d k q x (whole day n z r)) f
    (subst (RaisedRow d k q (one day n a)) (ap (one day n) (sym sum) ∙ sym (whole_first day n z r h))
    (raised_one day n a q d k (ap (λ (x : Kept). has_number x d k) f ∙ there)))

-- the first quantity is small where the sums are
pub first_small : (v : Kept) (day : Day) (n : ℕ) (a : ℤ) (r : Kept) → whole day n a r ≡ v → is_none r.0.0 ≡ true
    → ((p : Period) → IsUpTo 10000000000000000 (row_sum v p)) → IsUpTo 10000000000000000 a
first_small v day n a r e h small =
    subst (IsUpTo 10000000000000000)
    (ap (λ (x : Kept). row_sum x (Through day)) (sym e ∙ whole_first day n a r h) ∙ one_day_sum day.0 a day.0 ∙ here
    (int_le day.0 day.0) (refl_le day.0)) (small (Through day))
  where
    refl_le : (z : ℤ) → int_le z z ≡ true
    refl_le z = grind (arith, ints)

    here : (t : Bool) → t ≡ true → (if t then a else pos 0) ≡ a
    here true g = refl
    here false g = absurd (cc)
