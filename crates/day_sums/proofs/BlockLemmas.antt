-- The sums through days in blocks: what opening and raising their parts does to them.
use Rattle.std.proofs.Common.{◌≡◌, Bool, true, false, ◌&&◌, ◌||◌, List, [], ◌∷◌, refl, ap, ◌∙◌, sym, subst, arith, ℤ}
use Rattle.std.proofs.Common.{pos}
use Rattle.std.proofs.Common.{negsuc, ◌+ℤ◌, ◌≤ℤ◌, ◌<ℤ◌, ◌⊎◌, inl, inr, FitsSigned, w64}
use Rattle.std.specs.Prelude.{if◌then◌else◌, int_le, int_lt, cond}
use Rattle.std.specs.BTreeMap.{is_at, insert_entry}
use Rattle.std.specs.Ordering.{int_cmp, int_eq, is_eq}
use Rattle.std.specs.declared.cmp.Ordering.TheVariants.{Less, Equal, Greater}
use Rattle.std.proofs.lemmas.Int.{ints}
use Rattle.std.proofs.lemmas.Bool.Decides.{Decides-int_eq}
use Rattle.day_sums.specs.declared.points.Point.{Point}
use Rattle.day_sums.specs.Points.{is_none, point_sum, has_point, IsUpTo, SamePoints, RaisedPoints}
use Rattle.day_sums.specs.Blocks.{Spread, points_at, block_of, last_of, day_sum, has_day, one_day, IsSpread, SameDays}
use Rattle.day_sums.specs.Blocks.{RaisedDays}

-- ---- of points
pub both_true : (s t u v : Bool) → (s ≡ true → u ≡ true) → (t ≡ true → v ≡ true) → (s && t) ≡ true → (u && v) ≡ true
both_true true true u v f g h = rw (f refl, g refl) refl
both_true true false u v f g h = absurd (cc)
both_true false t u v f g h = absurd (cc)

abbrev pub share : ℤ → Bool → ℤ
share q t = if t then q else pos 0

pub none_more : (z : ℤ) → z ≡ z +ℤ pos 0
none_more z = omega (arith, ints)

pub has_some : (d : ℤ) (ps : List Point) → has_point d ps ≡ true → is_none ps ≡ false
has_some d [] h = absurd (cc)
has_some d (p ∷ ps) h = refl

pub still_some : (ps qs : List Point) → ((d : ℤ) → has_point d ps ≡ true → has_point d qs ≡ true) → is_none ps ≡ false
    → is_none qs ≡ false
still_some [] qs h e = absurd (cc)
still_some (p ∷ ps) qs h e =
    has_some p.at qs (h p.at (ap (λ (t : Bool). t || has_point p.at ps) ((Decides-int_eq p.at p.at).1 refl)))

either_way : (t u : Bool) → is_eq (cond t Less (cond u Greater Equal)) ≡ is_eq (cond u Less (cond t Greater Equal))
either_way true true = refl
either_way true false = refl
either_way false true = refl
either_way false false = refl

at_day : (d s : ℤ) → is_at (int_cmp d) s ≡ int_eq s d
at_day d s = either_way (int_lt d s) (int_lt s d)

-- the points of a number, where there is but one number
pub points_one : (s : ℤ) (ps : List Point) (d : ℤ) → points_at ((s, ps) ∷ []) d ≡ (if int_eq s d then ps else [])
points_one s ps d = by_test (is_at (int_cmp d) s) refl ∙ ap (λ (t : Bool). if t then ps else []) (at_day d s)
  where
    by_test : (t : Bool) → is_at (int_cmp d) s ≡ t → points_at ((s, ps) ∷ []) d ≡ (if t then ps else [])
    by_test true e = rw e refl
    by_test false e = rw e refl

-- ---- as tests
-- what the test of an order says
le_test : (a b : ℤ) → (a ≤ℤ b → int_le a b ≡ true) × (int_le a b ≡ true → a ≤ℤ b) × (int_le a b ≡ false → b <ℤ a)
le_test a b = (λ h. grind (arith, ints, h), λ h. grind (arith, ints, h), λ h. grind (arith, ints, h))

cases_le : (a b : ℤ) → (a ≤ℤ b) ⊎ (b <ℤ a)
cases_le a b = by_test (int_le a b) refl
  where
    by_test : (t : Bool) → int_le a b ≡ t → (a ≤ℤ b) ⊎ (b <ℤ a)
    by_test true e = inl ((le_test a b).1 e)
    by_test false e = inr ((le_test a b).2 e)

same_test : (a b c d : ℤ) → (a ≤ℤ b → c ≤ℤ d) → (c ≤ℤ d → a ≤ℤ b) → int_le a b ≡ int_le c d
same_test a b c d f g = by_test (int_le a b) (int_le c d) refl refl
  where
    by_test : (t u : Bool) → int_le a b ≡ t → int_le c d ≡ u → t ≡ u
    by_test true true h k = refl
    by_test false false h k = refl
    by_test true false h k = absurd (let m = (le_test c d).0 (f ((le_test a b).1 h)) in cc)
    by_test false true h k = absurd (let m = (le_test a b).0 (g ((le_test c d).1 k)) in cc)

-- ---- a day and its block
-- a day is at the last day of a block or before it where its block is that or an earlier one
pub through_last : (d k : ℤ) → block_of d ≤ℤ k → d ≤ℤ last_of k
through_last (pos a) (pos m) h = omega (arith, ints)
through_last (pos a) (negsuc m) h = absurd (omega (arith, ints))
through_last (negsuc a) (pos m) h = omega (arith, ints)
through_last (negsuc a) (negsuc m) h = omega (arith, ints)

pub last_through : (d k : ℤ) → d ≤ℤ last_of k → block_of d ≤ℤ k
last_through (pos a) (pos m) h = omega (arith, ints)
last_through (pos a) (negsuc m) h = absurd (omega (arith, ints))
last_through (negsuc a) (pos m) h = omega (arith, ints)
last_through (negsuc a) (negsuc m) h = omega (arith, ints)

block_last : (k : ℤ) → block_of (last_of k) ≡ k
block_last (pos m) = omega (arith, ints)
block_last (negsuc m) = omega (arith, ints)

-- a day is after the last day of the block before its own
before_day : (d : ℤ) → last_of (block_of d +ℤ negsuc 0) <ℤ d
before_day d = by_case (cases_le d (last_of (block_of d +ℤ negsuc 0)))
  where
    by_case : (d ≤ℤ last_of (block_of d +ℤ negsuc 0)) ⊎ (last_of (block_of d +ℤ negsuc 0) <ℤ d)
        → last_of (block_of d +ℤ negsuc 0) <ℤ d
    by_case (inr h) = h
    by_case (inl h) =
        absurd (let a = last_through d (block_of d +ℤ negsuc 0) h in omega (arith, ints))

-- a day between two of them is of the later one's block
between_last : (k d : ℤ) → last_of (k +ℤ negsuc 0) <ℤ d → d ≤ℤ last_of k → block_of d ≡ k
between_last k d h l = by_case (cases_le (block_of d) (k +ℤ negsuc 0))
  where
    by_case : (block_of d ≤ℤ (k +ℤ negsuc 0)) ⊎ ((k +ℤ negsuc 0) <ℤ block_of d) → block_of d ≡ k
    by_case (inl a) = absurd (let b = through_last d (k +ℤ negsuc 0) a in omega (arith, ints))
    by_case (inr a) = let b = last_through d k l in omega (arith, ints)

test_last : (d k : ℤ) → int_le (block_of d) k ≡ int_le d (last_of k)
test_last d k = same_test (block_of d) k d (last_of k) (through_last d k) (last_through d k)

-- what is in an earlier block, or in the same one and not after, is not after
test_day : (at d q : ℤ) →
    share q (int_le (block_of at) (block_of d +ℤ negsuc 0))
    +ℤ share q (int_eq (block_of at) (block_of d) && int_le at d)
    ≡ share q (int_le at d)
test_day at d q =
    by_tests (int_le (block_of at) (block_of d +ℤ negsuc 0)) (int_eq (block_of at) (block_of d)) (int_le at d) refl refl
    refl
  where
    here : d ≤ℤ last_of (block_of d)
    here = through_last d (block_of d) (omega (arith, ints))

    by_tests : (t u v : Bool) → int_le (block_of at) (block_of d +ℤ negsuc 0) ≡ t
        → int_eq (block_of at) (block_of d) ≡ u → int_le at d ≡ v → share q t +ℤ share q (u && v) ≡ share q v
    by_tests true true v e f g =
        absurd (let a = (le_test (block_of at) (block_of d +ℤ negsuc 0)).1 e in
        let b = (Decides-int_eq (block_of at) (block_of d)).0 f in omega (arith, ints))
    by_tests true false true e f g = omega (arith, ints)
    by_tests true false false e f g =
        absurd (let a = through_last at (block_of d +ℤ negsuc 0)
        ((le_test (block_of at) (block_of d +ℤ negsuc 0)).1 e) in
        let b = before_day d in let c = (le_test at d).2 g in omega (arith, ints))
    by_tests false true v e f g = omega (arith, ints)
    by_tests false false false e f g = omega (arith, ints)
    by_tests false false true e f g =
        absurd (let a = (le_test (block_of at) (block_of d +ℤ negsuc 0)).2 e in
        let l = (le_test at d).1 g in
        let h = here in
        let b = last_through at (block_of d) (omega (arith, ints, l, h)) in
        let c : block_of at ≡ block_of d = omega (arith, ints, a, b) in
        let m = (Decides-int_eq (block_of at) (block_of d)).1 c in cc)

-- ---- a day that is opened
module _ (r s : Spread) (tops : SamePoints r.0 s.0)
    (own : (k : ℤ) → SamePoints (points_at r.1 k) (points_at s.1 k)) where
  sums_opened : (d : ℤ) → day_sum s d ≡ day_sum r d
  sums_opened d =
      ap (λ (z : ℤ). z +ℤ point_sum (pos 0) (points_at s.1 (block_of d)) d) (tops.sums (block_of d +ℤ negsuc 0)) ∙ ap
      (λ (z : ℤ). point_sum (pos 0) r.0 (block_of d +ℤ negsuc 0) +ℤ z) ((own (block_of d)).sums d)

  pub same_days : SameDays r s
  same_days = record {
    sums = sums_opened;
    days = λ d. both_true _ _ _ _ (tops.points (block_of d)) ((own (block_of d)).points d);
    some = still_some r.0 s.0 tops.points;
  }

  pub kept_spread : IsSpread r → IsSpread s
  kept_spread h = record {
    tops = λ k. tops.sums k ∙ h.tops k ∙ sym (sums_opened (last_of k));
    before = λ k d l. (own k).sums d ∙ h.before k d l;
    behind = λ k d l. (own k).sums d ∙ h.behind k d l ∙ sym ((own k).sums (last_of k));
    fits = λ d. subst (FitsSigned w64) (sym (sums_opened d)) (h.fits d);
  }

-- ---- a day that is raised
module _ (r s : Spread) (at q : ℤ) (tops : RaisedPoints (block_of at) q r.0 s.0)
    (own : RaisedPoints at q (points_at r.1 (block_of at)) (points_at s.1 (block_of at)))
    (others : (k : ℤ) → int_eq (block_of at) k ≡ false → points_at s.1 k ≡ points_at r.1 k) where
  part_raised : (k z : ℤ) → point_sum (pos 0) (points_at s.1 k) z
      ≡ point_sum (pos 0) (points_at r.1 k) z +ℤ share q (int_eq (block_of at) k && int_le at z)
  part_raised k z = by_block (int_eq (block_of at) k) refl
    where
      by_block : (t : Bool) → int_eq (block_of at) k ≡ t
          → point_sum (pos 0) (points_at s.1 k) z ≡ point_sum (pos 0) (points_at r.1 k) z +ℤ share q (t && int_le at z)
      by_block true e = subst (λ (j : ℤ).
          point_sum (pos 0) (points_at s.1 j) z ≡ point_sum (pos 0) (points_at r.1 j) z +ℤ share q (int_le at z))
          ((Decides-int_eq (block_of at) k).0 e) (own.sums z)
      by_block false e =
          ap (λ (ps : List Point). point_sum (pos 0) ps z) (others k e)
          ∙ none_more (point_sum (pos 0) (points_at r.1 k) z)

  sums_raised : (d : ℤ) → day_sum s d ≡ day_sum r d +ℤ share q (int_le at d)
  sums_raised d =
      let a = tops.sums (block_of d +ℤ negsuc 0) in
      let b = part_raised (block_of d) d in
      let c = test_day at d q in
      omega (arith, ints)

  part_kept : (k z : ℤ) → has_point z (points_at r.1 k) ≡ true → has_point z (points_at s.1 k) ≡ true
  part_kept k z h = by_block (int_eq (block_of at) k) refl
    where
      by_block : (t : Bool) → int_eq (block_of at) k ≡ t → has_point z (points_at s.1 k) ≡ true
      by_block true e =
          let f = (Decides-int_eq (block_of at) k).0 e in
          subst (λ (j : ℤ). has_point z (points_at s.1 j) ≡ true) f
          (own.points z (subst (λ (j : ℤ). has_point z (points_at r.1 j) ≡ true) (sym f) h))
      by_block false e = ap (has_point z) (others k e) ∙ h

  pub raised_days : RaisedDays at q r s
  raised_days = record {
    sums = sums_raised;
    days = λ d. both_true _ _ _ _ (tops.points (block_of d)) (part_kept (block_of d) d);
    some = still_some r.0 s.0 tops.points;
  }

  -- before its own block nothing is raised, and after it everything
  raised_before : (k d : ℤ) → d ≤ℤ last_of (k +ℤ negsuc 0) → (int_eq (block_of at) k && int_le at d) ≡ false
  raised_before k d l = by_tests (int_eq (block_of at) k) (int_le at d) refl refl
    where
      by_tests : (t u : Bool) → int_eq (block_of at) k ≡ t → int_le at d ≡ u → (t && u) ≡ false
      by_tests false u e f = refl
      by_tests true false e f = refl
      by_tests true true e f =
          absurd (let a = (Decides-int_eq (block_of at) k).0 e in
          let b = last_through at (k +ℤ negsuc 0) (let m = (le_test at d).1 f in omega (arith, ints)) in
          omega (arith, ints))

  raised_behind : (k d : ℤ) → last_of k ≤ℤ d
      → (int_eq (block_of at) k && int_le at d) ≡ (int_eq (block_of at) k && int_le at (last_of k))
  raised_behind k d l = by_test (int_eq (block_of at) k) refl
    where
      by_test : (t : Bool) → int_eq (block_of at) k ≡ t → (t && int_le at d) ≡ (t && int_le at (last_of k))
      by_test false e = refl
      by_test true e =
          let a = (Decides-int_eq (block_of at) k).0 e in
          let b = through_last at k (omega (arith, ints)) in
          (le_test at d).0 (omega (arith, ints)) ∙ sym ((le_test at (last_of k)).0 b)

  pub kept_raised_days : ((d : ℤ) → FitsSigned w64 (day_sum s d)) → IsSpread r → IsSpread s
  kept_raised_days fits h = record {
    tops = λ k. tops.sums k ∙ ap (λ (z : ℤ). z +ℤ share q (int_le (block_of at) k)) (h.tops k) ∙ ap
        (λ (t : Bool). day_sum r (last_of k) +ℤ share q t) (test_last at k) ∙ sym (sums_raised (last_of k));
    before = λ k d l. part_raised k d ∙ ap
        (λ (t : Bool). point_sum (pos 0) (points_at r.1 k) d +ℤ share q t) (raised_before k d l) ∙ sym (none_more _)
        ∙ h.before k d l;
    behind = λ k d l. part_raised k d ∙ ap
        (λ (t : Bool). point_sum (pos 0) (points_at r.1 k) d +ℤ share q t) (raised_behind k d l) ∙ ap
        (λ (z : ℤ). z +ℤ share q (int_eq (block_of at) k && int_le at (last_of k))) (h.behind k d l) ∙ sym
        (part_raised k (last_of k));
    fits = fits;
  }

  pub fits_raised : ((d : ℤ) → IsUpTo 10000000000000000 (day_sum r d)) → IsUpTo 10000000000000000 q → (d : ℤ)
      → FitsSigned w64 (day_sum s d)
  fits_raised small qty d = by_test (int_le at d) (sums_raised d)
    where
      by_test : (t : Bool) → day_sum s d ≡ day_sum r d +ℤ share q t → FitsSigned w64 (day_sum s d)
      by_test true e =
          let a = (small d).low in let b = (small d).high in let c = qty.low in let f = qty.high in omega (arith, ints)
      by_test false e = let a = (small d).low in let b = (small d).high in omega (arith, ints)

-- the same, as the parts' calls say it
pub raised_blocks : (r s : Spread) (day q k j p : ℤ) → k ≡ block_of day → j ≡ day → p ≡ q → RaisedPoints k p r.0 s.0
    → RaisedPoints j p (points_at r.1 k) (points_at s.1 k)
    → ((i : ℤ) → int_eq k i ≡ false → points_at s.1 i ≡ points_at r.1 i)
    → ((d : ℤ) → IsUpTo 10000000000000000 (day_sum r d)) → IsUpTo 10000000000000000 q → IsSpread r
    → IsSpread s × RaisedDays day q r s
raised_blocks r s day q k j p at_block at_day by tops own others small qty spread = (
  kept_raised_days r s day q tops' own' others' (fits_raised r s day q tops' own' others' small qty) spread,
  raised_days r s day q tops' own' others',
)
  where
    tops' : RaisedPoints (block_of day) q r.0 s.0
    tops' = subst (λ (z : ℤ). RaisedPoints (block_of day) z r.0 s.0) by
        (subst (λ (i : ℤ). RaisedPoints i p r.0 s.0) at_block tops)

    own' : RaisedPoints day q (points_at r.1 (block_of day)) (points_at s.1 (block_of day))
    own' = subst (λ (z : ℤ). RaisedPoints day z (points_at r.1 (block_of day)) (points_at s.1 (block_of day))) by
        (subst (λ (i : ℤ). RaisedPoints i p (points_at r.1 (block_of day)) (points_at s.1 (block_of day))) at_day
        (subst (λ (i : ℤ). RaisedPoints j p (points_at r.1 i) (points_at s.1 i)) at_block own))

    others' : (i : ℤ) → int_eq (block_of day) i ≡ false → points_at s.1 i ≡ points_at r.1 i
    others' i h = others i (subst (λ (z : ℤ). int_eq z i ≡ false) (sym at_block) h)

-- ---- small sums of the parts, where the sums are small
pub small_tops : (s : Spread) → IsSpread s → ((d : ℤ) → IsUpTo 10000000000000000 (day_sum s d)) → (k : ℤ)
    → IsUpTo 40000000000000000 (point_sum (pos 0) s.0 k)
small_tops s h small k =
    let e = h.tops k in
    let a = (small (last_of k)).low in
    let b = (small (last_of k)).high in
    record { low = omega (arith, ints); high = omega (arith, ints) }

-- on a day of the block itself
small_own : (s : Spread) → IsSpread s → ((d : ℤ) → IsUpTo 10000000000000000 (day_sum s d)) → (k d : ℤ)
    → block_of d ≡ k → IsUpTo 40000000000000000 (point_sum (pos 0) (points_at s.1 k) d)
small_own s h small k d e = subst (λ (j : ℤ). IsUpTo 40000000000000000 (point_sum (pos 0) (points_at s.1 j) d)) e
    (let a = (small d).low in
    let b = (small d).high in
    let t = h.tops (block_of d +ℤ negsuc 0) in
    let f = (small (last_of (block_of d +ℤ negsuc 0))).low in
    let g = (small (last_of (block_of d +ℤ negsuc 0))).high in
    record { low = omega (arith, ints); high = omega (arith, ints) })

pub small_parts : (s : Spread) → IsSpread s → ((d : ℤ) → IsUpTo 10000000000000000 (day_sum s d)) → (k d : ℤ)
    → IsUpTo 40000000000000000 (point_sum (pos 0) (points_at s.1 k) d)
small_parts s h small k d = by_place (cases_le d (last_of (k +ℤ negsuc 0))) (cases_le (last_of k) d)
  where
    by_place : (d ≤ℤ last_of (k +ℤ negsuc 0)) ⊎ (last_of (k +ℤ negsuc 0) <ℤ d)
        → (last_of k ≤ℤ d) ⊎ (d <ℤ last_of k) → IsUpTo 40000000000000000 (point_sum (pos 0) (points_at s.1 k) d)
    by_place (inl a) b = subst (IsUpTo 40000000000000000) (sym (h.before k d a))
        (record { low = omega (arith, ints); high = omega (arith, ints) })
    by_place (inr a) (inl b) = subst (IsUpTo 40000000000000000) (sym (h.behind k d b))
        (small_own s h small k (last_of k) (block_last k))
    by_place (inr a) (inr b) = small_own s h small k d (between_last k d a (omega (arith, ints)))

-- ---- one quantity
zero_points : (at z : ℤ) → point_sum (pos 0) (record { at = at; sum = pos 0 } ∷ []) z ≡ pos 0
zero_points at z = by_test (int_le at z)
  where
    by_test : (t : Bool) → (if t then pos 0 else pos 0) ≡ pos 0
    by_test true = refl
    by_test false = refl

zero_parts : (d k z : ℤ)
    → point_sum (pos 0) (points_at ((block_of d, record { at = d; sum = pos 0 } ∷ []) ∷ []) k) z ≡ pos 0
zero_parts d k z = ap (λ (ps : List Point). point_sum (pos 0) ps z)
    (points_one (block_of d) (record { at = d; sum = pos 0 } ∷ []) k) ∙ by_test (int_eq (block_of d) k)
  where
    by_test : (t : Bool) → point_sum (pos 0) (if t then record { at = d; sum = pos 0 } ∷ [] else []) z ≡ pos 0
    by_test true = zero_points d z
    by_test false = refl

zero_sum : (d z : ℤ) → day_sum (one_day d (pos 0)) z ≡ pos 0
zero_sum d z =
    let a = zero_points (block_of d) (block_of z +ℤ negsuc 0) in
    let b = zero_parts d (block_of z) z in
    omega (arith, ints)

zero_spread : (d : ℤ) → IsSpread (one_day d (pos 0))
zero_spread d = record {
  tops = λ k. zero_points (block_of d) k ∙ sym (zero_sum d (last_of k));
  before = λ k z l. zero_parts d k z;
  behind = λ k z l. zero_parts d k z ∙ sym (zero_parts d k (last_of k));
  fits = λ z. subst (FitsSigned w64) (sym (zero_sum d z)) zero_fits;
}
  where
    zero_fits : FitsSigned w64 (pos 0)
    zero_fits = omega (arith, ints)

raised_point : (at q : ℤ) → RaisedPoints at q (record { at = at; sum = pos 0 } ∷ []) (record { at = at; sum = q } ∷ [])
raised_point at q = record { sums = λ d. by_test (int_le at d); points = λ d h. h }
  where
    by_test : (t : Bool) → (if t then q else pos 0) ≡ (if t then pos 0 else pos 0) +ℤ (if t then q else pos 0)
    by_test true = omega (arith, ints)
    by_test false = refl

own_part : (d q : ℤ) → points_at ((block_of d, record { at = d; sum = q } ∷ []) ∷ []) (block_of d)
    ≡ record { at = d; sum = q } ∷ []
own_part d q = points_one (block_of d) (record { at = d; sum = q } ∷ []) (block_of d) ∙ ap
    (λ (t : Bool). if t then record { at = d; sum = q } ∷ [] else [])
    ((Decides-int_eq (block_of d) (block_of d)).1 refl)

module _ (d q : ℤ) where
  own_raised : RaisedPoints d q (points_at (one_day d (pos 0)).1 (block_of d)) (points_at (one_day d q).1 (block_of d))
  own_raised = subst (RaisedPoints d q (points_at (one_day d (pos 0)).1 (block_of d))) (sym (own_part d q))
      (subst (λ (ps : List Point). RaisedPoints d q ps (record { at = d; sum = q } ∷ [])) (sym (own_part d (pos 0)))
      (raised_point d q))

  other_part : (k : ℤ) → int_eq (block_of d) k ≡ false
      → points_at (one_day d q).1 k ≡ points_at (one_day d (pos 0)).1 k
  other_part k e =
      points_one (block_of d) (record { at = d; sum = q } ∷ []) k
      ∙ ap (λ (t : Bool). if t then record { at = d; sum = q } ∷ [] else []) e
      ∙ sym (points_one (block_of d) (record { at = d; sum = pos 0 } ∷ []) k
      ∙ ap (λ (t : Bool). if t then record { at = d; sum = pos 0 } ∷ [] else []) e)

  pub one_day_sum : (z : ℤ) → day_sum (one_day d q) z ≡ share q (int_le d z)
  one_day_sum z =
      let a = sums_raised (one_day d (pos 0)) (one_day d q) d q (raised_point (block_of d) q) own_raised other_part z in
      let b = zero_sum d z in
      omega (arith, ints)

  pub one_spread : FitsSigned w64 q → IsSpread (one_day d q)
  one_spread h = kept_raised_days (one_day d (pos 0)) (one_day d q) d q (raised_point (block_of d) q) own_raised
      other_part fits (zero_spread d)
    where
      by_test : (t : Bool) → FitsSigned w64 (share q t)
      by_test true = h
      by_test false = omega (arith, ints)

      fits : (z : ℤ) → FitsSigned w64 (day_sum (one_day d q) z)
      fits z = subst (FitsSigned w64) (sym (one_day_sum z)) (by_test (int_le d z))

  -- its day is open, and no other
  pub one_has_day : (z : ℤ) → has_day z (one_day d q) ≡ (int_eq d z || false)
  one_has_day z =
      ap (λ (ps : List Point). (int_eq (block_of d) (block_of z) || false) && has_point z ps)
      (points_one (block_of d) (record { at = d; sum = q } ∷ []) (block_of z))
      ∙ by_tests (int_eq (block_of d) (block_of z)) (int_eq d z) refl refl
    where
      by_tests : (t u : Bool) → int_eq (block_of d) (block_of z) ≡ t → int_eq d z ≡ u →
          ((t || false) && has_point z (if t then record { at = d; sum = q } ∷ [] else [])) ≡ (u || false)
      by_tests true u e f = ap (λ (v : Bool). v || false) f
      by_tests false false e f = refl
      by_tests false true e f =
          absurd (let g = (Decides-int_eq (block_of d) (block_of z)).1 (ap block_of ((Decides-int_eq d z).0 f)) in cc)

-- no quantity
pub no_spread : IsSpread ([], [])
no_spread = record {
  tops = λ k. refl;
  before = λ k d l. refl;
  behind = λ k d l. refl;
  fits = λ d. omega (arith, ints);
}

pub spread_as : (r s : List Point) (es fs : List (ℤ × List Point)) → r ≡ s → es ≡ fs → IsSpread (r, es)
    → IsSpread (s, fs)
spread_as r s es fs e f h = subst (λ (xs : List (ℤ × List Point)). IsSpread (s, xs)) f
    (subst (λ (ps : List Point). IsSpread (ps, es)) e h)

-- only the blocks are opened
pub tops_opened : (r s : List Point) (es : List (ℤ × List Point)) → SamePoints r s
    → IsSpread (r, es) → IsSpread (s, es) × SameDays (r, es) (s, es)
tops_opened r s es same h = (kept_spread (r, es) (s, es) same own h, same_days (r, es) (s, es) same own)
  where
    own : (k : ℤ) → SamePoints (points_at es k) (points_at es k)
    own k = record { sums = λ d. refl; points = λ d g. g }

-- points and parts as they are made
abbrev pub point : ℤ → ℤ → Point
point a z = record { at = a; sum = z }

pub one_point : (ps : List Point) (a b z q : ℤ) → ps ≡ point a z ∷ [] → a ≡ b → z ≡ q → ps ≡ point b q ∷ []
one_point ps a b z q e f g = e ∙ ap (λ (x : ℤ). point x z ∷ []) f ∙ ap (λ (x : ℤ). point b x ∷ []) g

pub one_part : (es old : List (ℤ × List Point)) (k b : ℤ) (v ps : List Point) → es ≡ insert_entry int_cmp old k v
    → old ≡ [] → k ≡ b → v ≡ ps → es ≡ (b, ps) ∷ []
one_part es old k b v ps e f g h =
    e ∙ ap (λ (xs : List (ℤ × List Point)). insert_entry int_cmp xs k v) f
    ∙ ap (λ (x : ℤ). let w : List (ℤ × List Point) = (x, v) ∷ [] in w) g
    ∙ ap (λ (x : List Point). let w : List (ℤ × List Point) = (b, x) ∷ [] in w) h
