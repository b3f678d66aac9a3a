-- A row in which a number is opened: the same sums.
use Rattle.std.proofs.Common.{◌≡◌, ℕ, ◌+◌, ◌-◌, ◌<◌, Bool, true, false, nat_eq, ◌||◌, ◌&&◌, List, [], ◌∷◌, length}
use Rattle.std.proofs.Common.{get_or, zero, suc, refl, ap, ◌∙◌, sym, arith, ℤ, pos, ◌≤ℤ◌, ◌<ℤ◌}
use Rattle.std.specs.Prelude.{if◌then◌else◌, int_lt, int_le, cond, insert, nat_lt}
use Rattle.std.specs.List.{AllByRecursion, prefix_len}
use Rattle.std.specs.Ordering.{int_eq}
use Rattle.std.proofs.lemmas.Int.{ints}
use Rattle.std.proofs.lemmas.Bool.Decides.{Decides-int_eq, nat_tests}
use Rattle.std.proofs.Math.Bool.{or-true}
use Rattle.day_sums.specs.declared.points.Point.{Point}
use Rattle.day_sums.specs.Points.{point_sum, is_point_before, is_through, Ascends, has_point, SamePoints, blank_point}
use Rattle.day_sums.specs.Points.{base_at}
use Rattle.day_sums.specs.Points.{is_there}

abbrev point : ℤ → ℤ → Point
point d z = record { at = d; sum = z }

-- the row with a point of the number, which has the sum before it
abbrev pub opened : ℤ → ℤ → List Point → List Point
opened z d [] = point d z ∷ []
opened z d (p ∷ ps) =
    if is_point_before d p then p ∷ opened p.sum d ps else (if is_through d p then p ∷ ps else point d z ∷ p ∷ ps)

-- a day that is opened changes no sum
not_le_trans : (a b c : ℤ) → int_le a b ≡ false → int_le b c ≡ false → int_le a c ≡ true → ⊥
not_le_trans a b c h k m = grind (arith, ints)

base_before_later_point : (z : ℤ) (p : Point) (ps : List Point) (day d : ℤ) → is_through day p ≡ false → (t u : Bool)
    → int_le day d ≡ t
    → int_le p.at d ≡ u → (if t then (if u then point_sum p.sum ps d else z) else z) ≡ (if u then point_sum p.sum ps d
    else z)
base_before_later_point z p ps day d h true u e f = refl
base_before_later_point z p ps day d h false true e f = absurd (not_le_trans p.at day d h e f)
base_before_later_point z p ps day d h false false e f = refl

pub sum_at-opened : (z : ℤ) (ps : List Point) (day d : ℤ) → point_sum z (opened z day ps) d ≡ point_sum z ps d
sum_at-opened z [] day d = by_test (int_le day d)
  where
    by_test : (t : Bool) → (if t then z else z) ≡ z
    by_test true = refl
    by_test false = refl
sum_at-opened z (p ∷ ps) day d = by_tests (is_point_before day p) (is_through day p) refl (sum_at-opened p.sum ps day d)
  where
    by_tests : (t u : Bool) → is_through day p ≡ u → point_sum p.sum (opened p.sum day ps) d ≡ point_sum p.sum ps d →
        point_sum z (if t then p ∷ opened p.sum day ps else (if u then p ∷ ps else point day z ∷ p ∷ ps)) d
        ≡ (if int_le p.at d then point_sum p.sum ps d else z)
    by_tests true u e h = ap (λ (y : ℤ). if int_le p.at d then y else z) h
    by_tests false true e h = refl
    by_tests false false e h = base_before_later_point z p ps day d e (int_le day d) (int_le p.at d) refl refl

base_next : (z : ℤ) (p : Point) (ps : List Point) (n : ℕ) → base_at p.sum ps n ≡ base_at z (p ∷ ps) (suc n)
base_next z p ps zero = let e : nat_eq (suc zero) 0 ≡ false = grind (arith, nat_tests) in rw e refl
base_next z p ps (suc n) =
    let e : nat_eq (suc n) 0 ≡ false = grind (arith, nat_tests) in
    let g : nat_eq (suc (suc n)) 0 ≡ false = grind (arith, nat_tests) in
    let f : suc (suc n - 1) ≡ suc (suc n) - 1 = omega arith in
    rw (e, g) (ap (λ (k : ℕ). (get_or (p ∷ ps) k blank_point).sum) f)

-- where the day is there
on_day : (a b : ℤ) → a ≡ b → int_le a b ≡ true
on_day a b h = grind (arith, ints)

equal_if_le_not_lt : (a b : ℤ) → int_lt a b ≡ false → int_le a b ≡ true → a ≡ b
equal_if_le_not_lt a b h k =
    let f : a ≤ℤ b = grind (arith, ints) in let g : b ≤ℤ a = grind (arith, ints) in omega (arith, ints)

pub opened_same : (z : ℤ) (d : ℤ) (ps : List Point) (n : ℕ) → n ≡ prefix_len (is_point_before d) ps → n < length ps
    → (get_or ps n blank_point).at ≡ d → opened z d ps ≡ ps
opened_same z d [] n e h k = absurd (omega arith)
opened_same z d (p ∷ ps) n e h k =
    by_test (is_point_before d p) refl e
    (λ (m : ℕ) (f : m ≡ prefix_len (is_point_before d) ps) (g : m < length ps) (i : (get_or ps m blank_point).at ≡ d).
    opened_same p.sum d ps m f g i)
  where
    by_test : (t : Bool) → is_point_before d p ≡ t → n ≡ cond t (1 + prefix_len (is_point_before d) ps) 0
        → ((m : ℕ) → m ≡ prefix_len (is_point_before d) ps → m < length ps → (get_or ps m blank_point).at ≡ d
        → opened p.sum d ps ≡ ps) →
        (if t then p ∷ opened p.sum d ps else (if is_through d p then p ∷ ps else point d z ∷ p ∷ ps)) ≡ p ∷ ps
    by_test true f g i =
        let j : n ≡ suc (prefix_len (is_point_before d) ps) = omega arith in
        ap (λ (qs : List Point). p ∷ qs)
        (i (prefix_len (is_point_before d) ps) refl (omega arith)
        (sym (ap (λ (m : ℕ). (get_or (p ∷ ps) m blank_point).at) j) ∙ k))
    by_test false f g i =
        let j : p.at ≡ d = sym (ap (λ (m : ℕ). (get_or (p ∷ ps) m blank_point).at) g) ∙ k in
        rw (on_day p.at d j) refl

pub opened_new : (z : ℤ) (d : ℤ) (ps : List Point) (n : ℕ) → n ≡ prefix_len (is_point_before d) ps
    → (n < length ps → (get_or ps n blank_point).at ≡ d → ⊥) → opened z d ps ≡ insert ps n (point d (base_at z ps n))
opened_new z d [] n e h = ap (λ (m : ℕ). insert [] m (point d (base_at z [] m))) (sym e)
opened_new z d (p ∷ ps) n e h =
    by_test (is_point_before d p) refl e
    (λ (m : ℕ) (f : m ≡ prefix_len (is_point_before d) ps) (g : m < length ps → (get_or ps m blank_point).at ≡ d → ⊥).
    opened_new p.sum d ps m f g)
  where
    by_test : (t : Bool) → is_point_before d p ≡ t → n ≡ cond t (1 + prefix_len (is_point_before d) ps) 0
        → ((m : ℕ) → m ≡ prefix_len (is_point_before d) ps → (m < length ps → (get_or ps m blank_point).at ≡ d → ⊥)
        → opened p.sum d ps ≡ insert ps m (point d (base_at p.sum ps m))) →
        (if t then p ∷ opened p.sum d ps else (if is_through d p then p ∷ ps else point d z ∷ p ∷ ps))
        ≡ insert (p ∷ ps) n (point d (base_at z (p ∷ ps) n))
    by_test true f g i =
        let m = prefix_len (is_point_before d) ps in
        let j : n ≡ suc (prefix_len (is_point_before d) ps) = omega arith in
        ap (λ (qs : List Point). p ∷ qs)
        (i (prefix_len (is_point_before d) ps) refl
        (λ (l : prefix_len (is_point_before d) ps < length ps)
        (q : (get_or ps (prefix_len (is_point_before d) ps) blank_point).at ≡ d).
        h (omega arith) (ap (λ (m : ℕ). (get_or (p ∷ ps) m blank_point).at) j ∙ q)) ∙ ap
        (λ (w : ℤ). insert ps (prefix_len (is_point_before d) ps) (point d w))
        (base_next z p ps (prefix_len (is_point_before d) ps)))
        ∙ ap (λ (m : ℕ). insert (p ∷ ps) m (point d (base_at z (p ∷ ps) m))) (sym j)
    by_test false f g i =
        by_through (is_through d p) refl ∙ ap (λ (m : ℕ). insert (p ∷ ps) m (point d (base_at z (p ∷ ps) m))) (sym g)
      where
        by_through : (u : Bool) → is_through d p ≡ u → (if u then p ∷ ps else point d z ∷ p ∷ ps) ≡ point d z ∷ p ∷ ps
        by_through true q =
            absurd (h (omega arith) (ap (λ (m : ℕ). (get_or (p ∷ ps) m blank_point).at) g
            ∙ equal_if_le_not_lt p.at d f q))
        by_through false q = refl

-- whether a day has its point at a place
pub opened_there : (z : ℤ) (d : ℤ) (ps : List Point) (n : ℕ) → n ≡ prefix_len (is_point_before d) ps
    → is_there d ps n ≡ true → opened z d ps ≡ ps
opened_there z d ps n e h =
    opened_same z d ps n e (grind (arith, nat_tests, both.0)) ((Decides-int_eq (get_or ps n blank_point).at d).0 both.1)
  where
    parts : (a b : Bool) → (a && b) ≡ true → (a ≡ true) × (b ≡ true)
    parts true b f = (refl, f)
    parts false b f = absurd (cc)

    both : (nat_lt n (length ps) ≡ true) × (int_eq (get_or ps n blank_point).at d ≡ true)
    both = parts _ _ h

pub opened_absent : (z : ℤ) (d : ℤ) (ps : List Point) (n : ℕ) → n ≡ prefix_len (is_point_before d) ps
    → is_there d ps n ≡ false → opened z d ps ≡ insert ps n (point d (base_at z ps n))
opened_absent z d ps n e h = opened_new z d ps n e
    (λ l f. clash (nat_lt n (length ps)) (int_eq (get_or ps n blank_point).at d) h (grind (arith, nat_tests))
    ((Decides-int_eq (get_or ps n blank_point).at d).1 f))
  where
    clash : (a b : Bool) → (a && b) ≡ false → a ≡ true → b ≡ true → ⊥
    clash a b f g k = let m : (a && b) ≡ true = rw (g, k) refl in absurd (cc)

has-opened : (d day : ℤ) (z : ℤ) (ps : List Point) → has_point d ps ≡ true → has_point d (opened z day ps) ≡ true
has-opened d day z [] h = absurd (cc)
has-opened d day z (p ∷ ps) h =
    by_tests (is_point_before day p) (is_through day p) (int_eq p.at d) h (has-opened d day p.sum ps)
  where
    by_tests : (t u w : Bool) → (w || has_point d ps) ≡ true
        → (has_point d ps ≡ true → has_point d (opened p.sum day ps) ≡ true)
        → has_point d (if t then p ∷ opened p.sum day ps else (if u then p ∷ ps else point day z ∷ p ∷ ps)) ≡ true
    by_tests true u w e f = one (int_eq p.at d) h f
      where
        one : (s : Bool) → (s || has_point d ps) ≡ true
            → (has_point d ps ≡ true → has_point d (opened p.sum day ps) ≡ true)
            → (s || has_point d (opened p.sum day ps)) ≡ true
        one true m n = refl
        one false m n = n m
    by_tests false true w e f = h
    by_tests false false w e f = ap (λ (s : Bool). int_eq day d || s) h ∙ or-true (int_eq day d)

days_opened : (a : ℤ) (day : ℤ) (z : ℤ) (ps : List Point) → AllByRecursion (λ (x : Point). a <ℤ x.at) ps → a <ℤ day
    → AllByRecursion (λ (x : Point). a <ℤ x.at) (opened z day ps)
days_opened a day z [] h l = (l, tt)
days_opened a day z (p ∷ ps) h l =
    by_tests (is_point_before day p) (is_through day p) (days_opened a day p.sum ps h.1 l)
  where
    by_tests : (t w : Bool) → AllByRecursion (λ (x : Point). a <ℤ x.at) (opened p.sum day ps)
        → AllByRecursion (λ (x : Point). a <ℤ x.at)
        (if t then p ∷ opened p.sum day ps else (if w then p ∷ ps else point day z ∷ p ∷ ps))
    by_tests true w f = (h.0, f)
    by_tests false true f = h
    by_tests false false f = (l, h)

all_later : (a b : ℤ) (ps : List Point) → a <ℤ b → AllByRecursion (λ (x : Point). b <ℤ x.at) ps
    → AllByRecursion (λ (x : Point). a <ℤ x.at) ps
all_later a b [] l h = tt
all_later a b (p ∷ ps) l h = (let k = h.0 in omega (arith, ints), all_later a b ps l h.1)

pub ascends_opened : (day : ℤ) (z : ℤ) (ps : List Point) → Ascends ps → Ascends (opened z day ps)
ascends_opened day z [] h = (tt, tt)
ascends_opened day z (p ∷ ps) h =
    by_tests (is_point_before day p) (is_through day p) refl refl (ascends_opened day p.sum ps h.1)
  where
    lt : (a b : ℤ) → int_lt a b ≡ true → a <ℤ b
    lt a b k = grind (arith, ints)

    gt : (a b : ℤ) → int_le a b ≡ false → b <ℤ a
    gt a b k = grind (arith, ints)

    by_tests : (t w : Bool) → is_point_before day p ≡ t → is_through day p ≡ w → Ascends (opened p.sum day ps)
        → Ascends (if t then p ∷ opened p.sum day ps else (if w then p ∷ ps else point day z ∷ p ∷ ps))
    by_tests true w e f g = (days_opened p.at day p.sum ps h.0 (lt p.at day e), g)
    by_tests false true e f g = h
    by_tests false false e f g = ((gt p.at day f, all_later day p.at ps (gt p.at day f) h.0), h)

same_day : (a : ℤ) → int_eq a a ≡ true
same_day a = (Decides-int_eq a a).1 refl

pub has_opened : (day : ℤ) (z : ℤ) (ps : List Point) → has_point day (opened z day ps) ≡ true
has_opened day z [] = rw (same_day day) refl
has_opened day z (p ∷ ps) = by_tests (is_point_before day p) (is_through day p) refl refl (has_opened day p.sum ps)
  where
    equal : (a b : ℤ) → int_lt a b ≡ false → int_le a b ≡ true → a ≡ b
    equal a b k l = let f : a ≤ℤ b = grind (arith, ints) in let g : b ≤ℤ a = grind (arith, ints) in omega (arith, ints)

    by_tests : (t w : Bool) → is_point_before day p ≡ t → is_through day p ≡ w
        → has_point day (opened p.sum day ps) ≡ true
        → has_point day (if t then p ∷ opened p.sum day ps else (if w then p ∷ ps else point day z ∷ p ∷ ps)) ≡ true
    by_tests true w e f g = ap (λ (s : Bool). int_eq p.at day || s) g ∙ or-true (int_eq p.at day)
    by_tests false true e f g =
        ap (λ (s : Bool). s || has_point day ps) ((Decides-int_eq p.at day).1 (equal p.at day e f))
    by_tests false false e f g = ap (λ (s : Bool). s || has_point day (p ∷ ps)) (same_day day)

pub same_opened : (d : ℤ) (ps : List Point) → SamePoints ps (opened (pos 0) d ps)
same_opened d ps = record { sums = λ e. sum_at-opened (pos 0) ps d e; points = λ e h. has-opened e d (pos 0) ps h }

-- a point that is put in its place
pub inserted_is_opened : (d s : ℤ) (ps now : List Point) (n : ℕ) → n ≡ prefix_len (is_point_before d) ps
    → is_there d ps n ≡ false
    → s ≡ base_at (pos 0) ps n → now ≡ insert ps n (record { at = d; sum = s }) → now ≡ opened (pos 0) d ps
inserted_is_opened d s ps now n place absent base e =
    e ∙ ap (λ (z : ℤ). insert ps n (point d z)) base ∙ sym (opened_absent (pos 0) d ps n place absent)

-- a number that is there already
pub found_has : (d : ℤ) (ps : List Point) (n : ℕ) → n ≡ prefix_len (is_point_before d) ps → is_there d ps n ≡ true
    → has_point d ps ≡ true
found_has d ps n place there =
    ap (has_point d) (sym (opened_there (pos 0) d ps n place there)) ∙ has_opened d (pos 0) ps
