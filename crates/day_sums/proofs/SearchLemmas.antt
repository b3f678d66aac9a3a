-- Where a number stands in a row of points, and what the search for it finds.
use Rattle.std.proofs.Common.{◌≡◌, ℕ, ◌+◌, ◌-◌, ◌<◌, ◌≤◌, Bool, true, false, nat_eq, List, [], ◌∷◌, length, get_or}
use Rattle.std.proofs.Common.{zero, suc, refl, ap, ◌∙◌, sym, arith, ℤ, negsuc, ◌+ℤ◌, ◌≤ℤ◌, ◌<ℤ◌}
use Rattle.std.specs.Prelude.{if◌then◌else◌, int_lt, int_le, cond}
use Rattle.std.specs.List.{AllByRecursion, prefix_len}
use Rattle.std.specs.List.Sorted.{IsPartitionedBy, IsPartitionPoint}
use Rattle.std.proofs.lemmas.List.Sums.{prefix_len_is}
use Rattle.std.proofs.lemmas.Int.{ints}
use Rattle.std.proofs.lemmas.Bool.Decides.{nat_tests}
use Rattle.day_sums.specs.declared.points.Point.{Point}
use Rattle.day_sums.specs.Points.{point_sum, is_point_before, is_through, Ascends}

-- the point that a search finds has the sum
pub sum_at-prefix : (z : ℤ) (ps : List Point) (d : ℤ) (x : Point)
    → point_sum z ps d
    ≡ (if nat_eq (prefix_len (is_through d) ps) 0 then z else (get_or ps (prefix_len (is_through d) ps - 1) x).sum)
sum_at-prefix z [] d x = refl
sum_at-prefix z (p ∷ ps) d x = by_test (is_through d p) (sum_at-prefix p.sum ps d x)
  where
    inner : (n : ℕ) → (if nat_eq n 0 then p.sum else (get_or ps (n - 1) x).sum) ≡ (get_or (p ∷ ps) (suc n - 1) x).sum
    inner zero = refl
    inner (suc n) =
        let e : nat_eq (suc n) 0 ≡ false = grind (arith, nat_tests) in
        let f : suc (suc n - 1) ≡ suc (suc n) - 1 = omega arith in
        rw e (ap (λ (k : ℕ). (get_or (p ∷ ps) k x).sum) f)

    more_than : (n : ℕ) → (get_or (p ∷ ps) (suc n - 1) x).sum
        ≡ (if nat_eq (1 + n) 0 then z else (get_or (p ∷ ps) (1 + n - 1) x).sum)
    more_than n =
        let e : nat_eq (1 + n) 0 ≡ false = grind (arith, nat_tests) in
        let f : suc n - 1 ≡ 1 + n - 1 = omega arith in
        rw e (ap (λ (k : ℕ). (get_or (p ∷ ps) k x).sum) f)

    by_test : (t : Bool) → point_sum p.sum ps d
        ≡ (if nat_eq (prefix_len (is_through d) ps) 0 then p.sum
        else (get_or ps (prefix_len (is_through d) ps - 1) x).sum) →
        (if t then point_sum p.sum ps d else z)
        ≡ (if nat_eq (cond t (1 + prefix_len (is_through d) ps) 0) 0 then z
        else (get_or (p ∷ ps) (cond t (1 + prefix_len (is_through d) ps) 0 - 1) x).sum)
    by_test true h = h ∙ inner (prefix_len (is_through d) ps) ∙ more_than (prefix_len (is_through d) ps)
    by_test false h = refl

-- ---- by index
pub all_at : {X : Type 0} (P : X → Type 0) (xs : List X) (i : ℕ) (d : X) → AllByRecursion P xs → i < length xs
    → P (get_or xs i d)
all_at P [] i d h k = absurd (omega arith)
all_at P (x ∷ xs) zero d h k = h.0
all_at P (x ∷ xs) (suc i) d h k = all_at P xs i d h.1 (omega arith)

pub ascends_at : (ps : List Point) (i j : ℕ) (d : Point) → Ascends ps → i < j → j < length ps
    → (get_or ps i d).at <ℤ (get_or ps j d).at
ascends_at [] i j d h k m = absurd (omega arith)
ascends_at (p ∷ ps) i zero d h k m = absurd (omega arith)
ascends_at (p ∷ ps) zero (suc j) d h k m = all_at (λ (q : Point). p.at <ℤ q.at) ps j d h.0 (omega arith)
ascends_at (p ∷ ps) (suc i) (suc j) d h k m = ascends_at ps i j d h.1 (omega arith) (omega arith)

earlier_day : (ps : List Point) (i j : ℕ) (d : Point) → Ascends ps → i ≤ j → j < length ps
    → (get_or ps i d).at ≤ℤ (get_or ps j d).at
earlier_day ps i j d h k m = by_test (nat_eq i j) refl
  where
    by_test : (t : Bool) → nat_eq i j ≡ t → (get_or ps i d).at ≤ℤ (get_or ps j d).at
    by_test true e =
        let f : i ≡ j = grind (arith, nat_tests) in let g = ap (λ (n : ℕ). (get_or ps n d).at) f in omega (arith, ints)
    by_test false e =
        let l : i < j = grind (arith, nat_tests) in let g = ascends_at ps i j d h l m in omega (arith, ints)

back_le : (a b c : ℤ) → a ≤ℤ b → int_le b c ≡ true → int_le a c ≡ true
back_le a b c h k = grind (arith, ints)

back_lt : (a b c : ℤ) → a ≤ℤ b → int_lt b c ≡ true → int_lt a c ≡ true
back_lt a b c h k = grind (arith, ints)

pub parted_through : (ps : List Point) (day : ℤ) → Ascends ps → IsPartitionedBy (is_through day) ps
parted_through ps day h i j d k m e = back_le _ _ day (earlier_day ps i j d h k m) e

pub parted_before : (ps : List Point) (day : ℤ) → Ascends ps → IsPartitionedBy (is_point_before day) ps
parted_before ps day h i j d k m e = back_lt _ _ day (earlier_day ps i j d h k m) e

pub part_prefix : (p : Point → Bool) (xs : List Point) (i : ℕ) (d : Point) → i ≤ length xs
    → IsPartitionPoint (λ (y : Point). p y ≡ true) (λ (y : Point). p y ≡ false) xs i → i ≡ prefix_len p xs
part_prefix p xs i d h parts =
    sym (prefix_len_is p xs i d h (λ k l. parts.0 k d (omega arith) l) (λ l. parts.1 i d (omega arith) l))

-- what is before a number is what is through the one before it
pub lt_le : (a b : ℤ) → int_lt a b ≡ int_le a (b +ℤ negsuc 0)
lt_le a b = by_tests (int_lt a b) (int_le a (b +ℤ negsuc 0)) refl refl
  where
    up : int_lt a b ≡ true → int_le a (b +ℤ negsuc 0) ≡ true
    up h = let k : a <ℤ b = grind (arith, ints) in let m : a ≤ℤ (b +ℤ negsuc 0) =
        omega (arith, ints) in grind (arith, ints)

    down : int_le a (b +ℤ negsuc 0) ≡ true → int_lt a b ≡ true
    down h = let k : a ≤ℤ (b +ℤ negsuc 0) = grind (arith, ints) in let m : a <ℤ b =
        omega (arith, ints) in grind (arith, ints)

    by_tests : (t u : Bool) → int_lt a b ≡ t → int_le a (b +ℤ negsuc 0) ≡ u → t ≡ u
    by_tests true true e f = refl
    by_tests false false e f = refl
    by_tests true false e f = absurd (let g = up e in cc)
    by_tests false true e f = absurd (let g = down f in cc)

pub same_prefix : (ps : List Point) (d : ℤ)
    → prefix_len (is_point_before d) ps ≡ prefix_len (is_through (d +ℤ negsuc 0)) ps
same_prefix [] d = refl
same_prefix (p ∷ ps) d = ap (λ (n : ℕ). cond (is_point_before d p) (1 + n) 0) (same_prefix ps d) ∙ ap
    (λ (t : Bool). cond t (1 + prefix_len (is_through (d +ℤ negsuc 0)) ps) 0) (lt_le p.at d)
