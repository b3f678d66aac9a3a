-- A row: what opening and raising its parts does to its sums.
use Rattle.std.proofs.Common.{◌≡◌, ℕ, Bool, true, false, ◌&&◌, List, [], refl, ap, ◌∙◌, sym, subst, arith, ℤ, pos}
use Rattle.std.proofs.Common.{negsuc, ◌+ℤ◌}
use Rattle.std.specs.Prelude.{None, Option, int_le}
use Rattle.std.specs.Option.{unwrap_or}
use Rattle.std.specs.Map.{lookup}
use Rattle.std.specs.BTreeMap.{is_at}
use Rattle.std.specs.Ordering.{int_cmp, int_eq}
use Rattle.std.proofs.lemmas.Int.{ints}
use Rattle.std.proofs.lemmas.Bool.Decides.{Decides-int_eq}
use Rattle.money_core.specs.declared.day.Day.{Day}
use Rattle.day_sums.specs.declared.points.Point.{Point}
use Rattle.day_sums.specs.Points.{point_sum, has_point, IsUpTo, SamePoints, RaisedPoints}
use Rattle.day_sums.specs.declared.period.Period.{Period}
use Rattle.day_sums.specs.declared.period.Period.TheVariants.{Before, Through, Within}
use Rattle.day_sums.specs.Period.{is_in}
use Rattle.day_sums.specs.Blocks.{points_at, day_sum, has_day, SameDays, RaisedDays}
use Rattle.day_sums.specs.Row.{Kept, row_sum, has_number, IsRow, SameRow, RaisedRow}
use Rattle.day_sums.proofs.SearchLemmas.{lt_le}
use Rattle.day_sums.proofs.BlockLemmas.{both_true, share, none_more}

pub same_points : (ps : List Point) → SamePoints ps ps
same_points ps = record { sums = λ d. refl; points = λ d h. h }

pub same_none : (r : Kept) → SameRow r r
same_none r = record { sums = λ p. refl; opened = λ d n h. h }

-- ---- a number that is opened
module _ (r s : Kept) (days : SameDays r.0 s.0) (own : (k : ℤ) → SamePoints (points_at r.1 k) (points_at s.1 k)) where
  sums_same : (p : Period) → row_sum s p ≡ row_sum r p
  sums_same (Before d) = days.sums (d.0 +ℤ negsuc 0)
  sums_same (Through d) = days.sums d.0
  sums_same (Within d n) = (own d.0).sums (pos n)

  pub same_row : SameRow r s
  same_row = record { sums = sums_same; opened = λ d n. both_true _ _ _ _ (days.days d.0) ((own d.0).points (pos n)) }

  pub kept_row : IsRow r → IsRow s
  kept_row row k j = (own k).sums (negsuc j) ∙ row k j

-- ---- a number that is raised
module _ (r s : Kept) (day : Day) (n : ℕ) (q : ℤ) (days : RaisedDays day.0 q r.0 s.0)
    (own : RaisedPoints (pos n) q (points_at r.1 day.0) (points_at s.1 day.0))
    (others : (k : ℤ) → int_eq day.0 k ≡ false → points_at s.1 k ≡ points_at r.1 k) where
  -- the sums of a day's own
  within_raised : (k z : ℤ) → point_sum (pos 0) (points_at s.1 k) z
      ≡ point_sum (pos 0) (points_at r.1 k) z +ℤ share q (int_eq day.0 k && int_le (pos n) z)
  within_raised k z = by_day (int_eq day.0 k) refl
    where
      by_day : (t : Bool) → int_eq day.0 k ≡ t
          → point_sum (pos 0) (points_at s.1 k) z ≡ point_sum (pos 0) (points_at r.1 k) z +ℤ share q
          (t && int_le (pos n) z)
      by_day true e = subst (λ (j : ℤ).
          point_sum (pos 0) (points_at s.1 j) z ≡ point_sum (pos 0) (points_at r.1 j) z +ℤ share q (int_le (pos n) z))
          ((Decides-int_eq day.0 k).0 e) (own.sums z)
      by_day false e =
          ap (λ (ps : List Point). point_sum (pos 0) ps z) (others k e)
          ∙ none_more (point_sum (pos 0) (points_at r.1 k) z)

  sums_raised : (p : Period) → row_sum s p ≡ row_sum r p +ℤ share q (is_in p day n)
  sums_raised (Before d) = days.sums (d.0 +ℤ negsuc 0) ∙ ap
      (λ (t : Bool). day_sum r.0 (d.0 +ℤ negsuc 0) +ℤ share q t) (sym (lt_le day.0 d.0))
  sums_raised (Through d) = days.sums d.0
  sums_raised (Within d k) = within_raised d.0 (pos k)

  points_kept : (k z : ℤ) → has_point z (points_at r.1 k) ≡ true → has_point z (points_at s.1 k) ≡ true
  points_kept k z h = by_day (int_eq day.0 k) refl
    where
      by_day : (t : Bool) → int_eq day.0 k ≡ t → has_point z (points_at s.1 k) ≡ true
      by_day true e = let f = (Decides-int_eq day.0 k).0 e in subst (λ (j : ℤ). has_point z (points_at s.1 j) ≡ true) f
          (own.points z (subst (λ (j : ℤ). has_point z (points_at r.1 j) ≡ true) (sym f) h))
      by_day false e = ap (has_point z) (others k e) ∙ h

  pub raised_row : RaisedRow day n q r s
  raised_row =
      record { sums = sums_raised; opened = λ d k. both_true _ _ _ _ (days.days d.0) (points_kept d.0 (pos k)) }

  pub kept_raised : IsRow r → IsRow s
  kept_raised row k j = within_raised k (negsuc j) ∙ by_day (int_eq day.0 k) (row k j)
    where
      by_day : (t : Bool) → point_sum (pos 0) (points_at r.1 k) (negsuc j) ≡ pos 0
          → point_sum (pos 0) (points_at r.1 k) (negsuc j) +ℤ share q (t && int_le (pos n) (negsuc j)) ≡ pos 0
      by_day true e = sym (none_more _) ∙ e
      by_day false e = sym (none_more _) ∙ e

-- the same, as the parts' calls say it
pub raised_parts : (r s : Kept) (day : Day) (n : ℕ) (q k j p : ℤ) → k ≡ day.0 → j ≡ pos n → p ≡ q
    → RaisedDays k p r.0 s.0 → RaisedPoints j p (points_at r.1 k) (points_at s.1 k)
    → ((i : ℤ) → int_eq k i ≡ false → points_at s.1 i ≡ points_at r.1 i) →
    IsRow r → IsRow s × RaisedRow day n q r s
raised_parts r s day n q k j p at_day at_number by days own others row =
    (kept_raised r s day n q days' own' others' row, raised_row r s day n q days' own' others')
  where
    days' : RaisedDays day.0 q r.0 s.0
    days' = subst (λ (z : ℤ). RaisedDays day.0 z r.0 s.0) by (subst (λ (i : ℤ). RaisedDays i p r.0 s.0) at_day days)

    own' : RaisedPoints (pos n) q (points_at r.1 day.0) (points_at s.1 day.0)
    own' = subst (λ (z : ℤ). RaisedPoints (pos n) z (points_at r.1 day.0) (points_at s.1 day.0)) by
        (subst (λ (i : ℤ). RaisedPoints i p (points_at r.1 day.0) (points_at s.1 day.0)) at_number
        (subst (λ (i : ℤ). RaisedPoints j p (points_at r.1 i) (points_at s.1 i)) at_day own))

    others' : (i : ℤ) → int_eq day.0 i ≡ false → points_at s.1 i ≡ points_at r.1 i
    others' i h = others i (subst (λ (z : ℤ). int_eq z i ≡ false) (sym at_day) h)

-- ---- an open number has its points, and small sums
pub is_open_within : (r : Kept) (d : Day) (n : ℕ) → has_number r d n ≡ true
    → (has_day d.0 r.0 ≡ true) × (has_point (pos n) (points_at r.1 d.0) ≡ true)
is_open_within r d n h = parts (has_day d.0 r.0) (has_point (pos n) (points_at r.1 d.0)) h
  where
    parts : (s t : Bool) → (s && t) ≡ true → (s ≡ true) × (t ≡ true)
    parts true t e = (refl, e)
    parts false t e = absurd (cc)

IsUpTo_fourfold : (z : ℤ) → IsUpTo 10000000000000000 z → IsUpTo 40000000000000000 z
IsUpTo_fourfold z h =
    let l = h.low in let m = h.high in record { low = omega (arith, ints); high = omega (arith, ints) }

pub small_days : (r : Kept) → ((p : Period) → IsUpTo 10000000000000000 (row_sum r p)) → (k : ℤ)
    → IsUpTo 10000000000000000 (day_sum r.0 k)
small_days r small k = small (Through (record { 0 = k }))

pub small_numbers : (r : Kept) → IsRow r → ((p : Period) → IsUpTo 10000000000000000 (row_sum r p)) → (k z : ℤ)
    → IsUpTo 40000000000000000 (point_sum (pos 0) (points_at r.1 k) z)
small_numbers r row small k (pos n) = IsUpTo_fourfold _ (small (Within (record { 0 = k }) n))
small_numbers r row small k (negsuc j) =
    subst (IsUpTo 40000000000000000) (sym (row k j)) (record { low = omega (arith, ints); high = omega (arith, ints) })

pub small_view : (r v : Kept) → r ≡ v → ((p : Period) → IsUpTo 10000000000000000 (row_sum v p)) → (p : Period)
    → IsUpTo 10000000000000000 (row_sum r p)
small_view r v e small p = subst (λ (x : Kept). IsUpTo 10000000000000000 (row_sum x p)) (sym e) (small p)

-- a day with no numbers adds nothing
pub none_within : (r v : Kept) → r ≡ v → (k l z : ℤ) → k ≡ l → None ≡ lookup (is_at (int_cmp k)) r.1
    → pos 0 ≡ point_sum (pos 0) (points_at v.1 l) z
none_within r v e k l z f h =
    ap (λ (o : Option (List Point)). point_sum (pos 0) (unwrap_or o []) z) h ∙ ap
    (λ (j : ℤ). point_sum (pos 0) (points_at r.1 j) z) f ∙ ap (λ (x : Kept). point_sum (pos 0) (points_at x.1 l) z) e
