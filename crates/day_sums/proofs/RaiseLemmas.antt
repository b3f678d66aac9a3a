-- A row whose sums are raised from a number on.
use Rattle.std.proofs.Common.{◌≡◌, ℕ, ◌+◌, ◌<◌, ◌≤◌, Bool, true, false, ◌||◌, List, [], ◌∷◌, ◌++◌, length, map, take}
use Rattle.std.proofs.Common.{drop, get_or, zero, suc, refl, ap, ◌∙◌, sym, subst, arith, ℤ, pos, ◌+ℤ◌, ◌≤ℤ◌, ◌<ℤ◌, set}
use Rattle.std.specs.Prelude.{if◌then◌else◌, int_lt, int_le, cond}
use Rattle.std.specs.List.{AllByRecursion, prefix_len}
use Rattle.std.specs.Ordering.{int_eq}
use Rattle.std.proofs.lemmas.Int.{ints}
use Rattle.std.proofs.lemmas.Bool.Decides.{Decides-int_eq}
use Rattle.money_core.proofs.TestLemmas.{int_le-refl}
use Rattle.day_sums.specs.declared.points.Point.{Point}
use Rattle.day_sums.specs.Points.{point_sum, is_point_before, Ascends, has_point, IsUpTo, RaisedPoints, more}
use Rattle.day_sums.specs.Points.{raised_from}

abbrev pub raised : ℤ → ℤ → List Point → List Point
raised d q ps = raised_from (prefix_len (is_point_before d) ps) q ps

-- a suffix that is raised
abbrev pub share_by : ℤ → ℤ → ℤ → ℤ
share_by day d q = if int_le day d then q else pos 0

raised_all : (z q : ℤ) (ps : List Point) (d : ℤ) → point_sum (z +ℤ q) (map (more q) ps) d ≡ point_sum z ps d +ℤ q
raised_all z q [] d = refl
raised_all z q (p ∷ ps) d = by_test (int_le p.at d) (raised_all p.sum q ps d)
  where
    by_test : (t : Bool) → point_sum (p.sum +ℤ q) (map (more q) ps) d ≡ point_sum p.sum ps d +ℤ q
        → (if t then point_sum (p.sum +ℤ q) (map (more q) ps) d else z +ℤ q) ≡ (if t then point_sum p.sum ps d else z)
        +ℤ q
    by_test true h = h
    by_test false h = refl

no_more : (z : ℤ) → z ≡ z +ℤ pos 0
no_more z = omega (arith, ints)

lt_le_trans : (a b c : ℤ) → int_lt a b ≡ true → int_le b c ≡ true → int_le a c ≡ false → ⊥
lt_le_trans a b c h k m = grind (arith, ints)

same_day : (a b c : ℤ) → int_lt a b ≡ false → int_le a c ≡ true → int_le b c ≡ false → ⊥
same_day a b c h k m = grind (arith, ints)

-- the row begins on the day
at_day : (z q : ℤ) (p : Point) (ps : List Point) (day d : ℤ) → p.at ≡ day
    → point_sum z (map (more q) (p ∷ ps)) d ≡ point_sum z (p ∷ ps) d +ℤ share_by day d q
at_day z q p ps day d e = by_test (int_le p.at d) (int_le day d) (ap (λ (a : ℤ). int_le a d) e)
  where
    by_test : (t u : Bool) → t ≡ u → (if t then point_sum (p.sum +ℤ q) (map (more q) ps) d else z)
        ≡ (if t then point_sum p.sum ps d else z) +ℤ (if u then q else pos 0)
    by_test true true f = raised_all p.sum q ps d
    by_test true false f = absurd (cc)
    by_test false true f = absurd (cc)
    by_test false false f = no_more z

-- ---- a suffix is raised, point by point
pub raise_step : (k i : ℕ) (q : ℤ) (ps : List Point) (d : Point) → k ≤ i → i < length ps
    → set (take i (raised_from k q ps) ++ drop i ps) i (more q (get_or ps i d))
    ≡ take (suc i) (raised_from k q ps) ++ drop (suc i) ps
raise_step k i q [] d h l = absurd (omega arith)
raise_step zero zero q (p ∷ ps) d h l = refl
raise_step zero (suc i) q (p ∷ ps) d h l =
    ap (λ (qs : List Point). more q p ∷ qs) (raise_step zero i q ps d (omega arith) (omega arith))
raise_step (suc k) zero q (p ∷ ps) d h l = absurd (omega arith)
raise_step (suc k) (suc i) q (p ∷ ps) d h l =
    ap (λ (qs : List Point). p ∷ qs) (raise_step k i q ps d (omega arith) (omega arith))

pub raise_here : (k i : ℕ) (q : ℤ) (ps : List Point) (d : Point) → i < length ps
    → get_or (take i (raised_from k q ps) ++ drop i ps) i d ≡ get_or ps i d
raise_here k i q [] d l = absurd (omega arith)
raise_here zero zero q (p ∷ ps) d l = refl
raise_here zero (suc i) q (p ∷ ps) d l = raise_here zero i q ps d (omega arith)
raise_here (suc k) zero q (p ∷ ps) d l = refl
raise_here (suc k) (suc i) q (p ∷ ps) d l = raise_here k i q ps d (omega arith)

pub raise_none : (k : ℕ) (q : ℤ) (ps : List Point) → take k (raised_from k q ps) ++ drop k ps ≡ ps
raise_none zero q [] = refl
raise_none zero q (p ∷ ps) = refl
raise_none (suc k) q [] = refl
raise_none (suc k) q (p ∷ ps) = ap (λ (qs : List Point). p ∷ qs) (raise_none k q ps)

pub raise_all : (k i : ℕ) (q : ℤ) (ps : List Point) → length ps ≤ i
    → take i (raised_from k q ps) ++ drop i ps ≡ raised_from k q ps
raise_all zero i q [] h = by_index i
  where
    by_index : (i : ℕ) → take i (raised_from 0 q []) ++ drop i [] ≡ raised_from 0 q []
    by_index zero = refl
    by_index (suc i) = refl
raise_all (suc k) zero q [] h = refl
raise_all (suc k) (suc i) q [] h = refl
raise_all k zero q (p ∷ ps) h = absurd (omega arith)
raise_all zero (suc i) q (p ∷ ps) h = ap (λ (qs : List Point). more q p ∷ qs) (raise_all zero i q ps (omega arith))
raise_all (suc k) (suc i) q (p ∷ ps) h = ap (λ (qs : List Point). p ∷ qs) (raise_all k i q ps (omega arith))

-- ---- a day that is there: each sum from it on is more
pub sum_at-raised : (z q : ℤ) (ps : List Point) (day d : ℤ) → has_point day ps ≡ true → Ascends ps
    → point_sum z (raised day q ps) d ≡ point_sum z ps d +ℤ share_by day d q
sum_at-raised z q [] day d h a = absurd (cc)
sum_at-raised z q (p ∷ ps) day d h a =
    by_test (is_point_before day p) refl (λ (k : has_point day ps ≡ true). sum_at-raised p.sum q ps day d k a.1)
  where
    later_day : (b c : ℤ) → int_lt b c ≡ true → int_eq b c ≡ false
    later_day b c k = grind (arith, ints)

    rest_has : is_point_before day p ≡ true → has_point day ps ≡ true
    rest_has k = sym (ap (λ (t : Bool). t || has_point day ps) (later_day p.at day k)) ∙ h

    up : (t : Bool) → int_le p.at d ≡ t → is_point_before day p ≡ true
        → point_sum p.sum (raised day q ps) d ≡ point_sum p.sum ps d +ℤ share_by day d q
        → (if t then point_sum p.sum (raised day q ps) d else z) ≡ (if t then point_sum p.sum ps d else z) +ℤ share_by
        day d q
    up true e f g = g
    up false e f g = by_day (int_le day d) refl
      where
        by_day : (u : Bool) → int_le day d ≡ u → z ≡ z +ℤ (if u then q else pos 0)
        by_day true m = absurd (lt_le_trans p.at day d f m e)
        by_day false m = no_more z

    none_later : (qs : List Point) → int_lt p.at day ≡ false → int_eq p.at day ≡ false
        → AllByRecursion (λ (x : Point). p.at <ℤ x.at) qs → has_point day qs ≡ false
    none_later [] k m r = refl
    none_later (x ∷ qs) k m r =
        let e : int_eq x.at day ≡ false = past p.at day x.at k m r.0 in
        rw (e, none_later qs k m r.1) refl
      where
        past : (b c e : ℤ) → int_lt b c ≡ false → int_eq b c ≡ false → b <ℤ e → int_eq e c ≡ false
        past b c e k m r = by_case (int_eq e c) refl
          where
            clash : e ≡ c → ⊥
            clash f = let g : c ≤ℤ b = grind (arith, ints) in omega (arith, ints)

            by_case : (t : Bool) → int_eq e c ≡ t → t ≡ false
            by_case true f = absurd (clash ((Decides-int_eq e c).0 f))
            by_case false f = refl

    by_test : (t : Bool) → is_point_before day p ≡ t
        → (has_point day ps ≡ true → point_sum p.sum (raised day q ps) d ≡ point_sum p.sum ps d +ℤ share_by day d q) →
        point_sum z (raised_from (cond t (1 + prefix_len (is_point_before day) ps) 0) q (p ∷ ps)) d
        ≡ point_sum z (p ∷ ps) d +ℤ share_by day d q
    by_test true e g =
        ap (λ (k : ℕ). point_sum z (raised_from k q (p ∷ ps)) d) (one (prefix_len (is_point_before day) ps)) ∙ up
        (int_le p.at d) refl e (g (rest_has e))
      where
        one : (n : ℕ) → 1 + n ≡ suc n
        one n = omega arith
    by_test false e g = at_day z q p ps day d (same (int_eq p.at day) refl)
      where
        same : (t : Bool) → int_eq p.at day ≡ t → p.at ≡ day
        same true k = (Decides-int_eq p.at day).0 k
        same false k =
            absurd (let m = sym (ap (λ (t : Bool). t || has_point day ps) k) ∙ h in let r = none_later ps e k a.0 in cc)

has-raised : (d : ℤ) (k : ℕ) (q : ℤ) (ps : List Point) → has_point d (raised_from k q ps) ≡ has_point d ps
has-raised d zero q [] = refl
has-raised d (suc k) q [] = refl
has-raised d zero q (p ∷ ps) = ap (λ (t : Bool). int_eq p.at d || t) (has-raised d zero q ps)
has-raised d (suc k) q (p ∷ ps) = ap (λ (t : Bool). int_eq p.at d || t) (has-raised d k q ps)

after_day : (a b c : ℤ) → a <ℤ b → int_le a c ≡ false → int_le b c ≡ false
after_day a b c h k = grind (arith, ints)

own_day : (a b : ℤ) → a <ℤ b → int_le b a ≡ false
own_day a b h = grind (arith, ints)

only_before : (z : ℤ) (a : ℤ) (ps : List Point) (d : ℤ) → AllByRecursion (λ (q : Point). a <ℤ q.at) ps
    → ((b : ℤ) → a <ℤ b → int_le b d ≡ false) → point_sum z ps d ≡ z
only_before z a [] d h k = refl
only_before z a (p ∷ ps) d h k = rw (k p.at h.0) refl

pub small_points : (m : ℕ) (z : ℤ) (ps : List Point) → Ascends ps → ((d : ℤ) → IsUpTo m (point_sum z ps d))
    → AllByRecursion (λ (p : Point). IsUpTo m p.sum) ps
small_points m z [] asc small = tt
small_points m z (p ∷ ps) asc small = (here, small_points m p.sum ps asc.1 rest)
  where
    here : IsUpTo m p.sum
    here =
        subst (IsUpTo m) (ap (λ (t : Bool). if t then point_sum p.sum ps p.at else z) (int_le-refl p.at) ∙ only_before
        p.sum p.at ps p.at asc.0 (own_day p.at)) (small p.at)

    rest : (d : ℤ) → IsUpTo m (point_sum p.sum ps d)
    rest d = by_test (int_le p.at d) refl
      where
        by_test : (t : Bool) → int_le p.at d ≡ t → IsUpTo m (point_sum p.sum ps d)
        by_test true e = subst (IsUpTo m) (ap (λ (t : Bool). if t then point_sum p.sum ps d else z) e) (small d)
        by_test false e =
            subst (IsUpTo m) (sym (only_before p.sum p.at ps d asc.0 (λ b l. after_day p.at b d l e))) here

days_raised : (a : ℤ) (k : ℕ) (q : ℤ) (ps : List Point) → AllByRecursion (λ (x : Point). a <ℤ x.at) ps
    → AllByRecursion (λ (x : Point). a <ℤ x.at) (raised_from k q ps)
days_raised a zero q [] h = tt
days_raised a (suc k) q [] h = tt
days_raised a zero q (p ∷ ps) h = (h.0, days_raised a zero q ps h.1)
days_raised a (suc k) q (p ∷ ps) h = (h.0, days_raised a k q ps h.1)

pub ascends_raised : (k : ℕ) (q : ℤ) (ps : List Point) → Ascends ps → Ascends (raised_from k q ps)
ascends_raised zero q [] h = tt
ascends_raised (suc k) q [] h = tt
ascends_raised zero q (p ∷ ps) h = (days_raised p.at zero q ps h.0, ascends_raised zero q ps h.1)
ascends_raised (suc k) q (p ∷ ps) h = (days_raised p.at k q ps h.0, ascends_raised k q ps h.1)

pub length-raised : (k : ℕ) (q : ℤ) (ps : List Point) → length (raised_from k q ps) ≡ length ps
length-raised zero q [] = refl
length-raised (suc k) q [] = refl
length-raised zero q (p ∷ ps) = ap suc (length-raised zero q ps)
length-raised (suc k) q (p ∷ ps) = ap suc (length-raised k q ps)

pub same_raised : (d q : ℤ) (ps : List Point) → has_point d ps ≡ true → Ascends ps → RaisedPoints d q ps (raised d q ps)
same_raised d q ps h a =
    record { sums = λ e. sum_at-raised (pos 0) q ps d e h a; points = λ e k. has-raised e _ q ps ∙ k }
