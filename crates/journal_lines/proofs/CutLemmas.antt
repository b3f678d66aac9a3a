-- Laws of cutting texts at blanks and at a byte.
use Rattle.std.proofs.Common.{◌≡◌, ◌≤◌, ◌<◌, ◌+◌, ◌-◌, ◌++◌, ◌==◌, ℕ, zero, suc, List, [], ◌∷◌, Bool, true, false, not}
use Rattle.std.proofs.Common.{length, take, drop, reverse, get_or, slice_index, arith, refl, ap, ◌∙◌, append-nil, sym}
use Rattle.std.proofs.Common.{subst, Some, None, inl, inr, length-append}
use Rattle.std.proofs.lemmas.Bool.{cases_Bool, cases_lt, and_parts, and_from, not-true, not_from_false, lt-ltb, le-ltb}
use Rattle.std.proofs.lemmas.Bool.{eqb-true}
use Rattle.std.specs.List.{list_all, position_or_len, before_first, after_first}
use Rattle.std.proofs.lemmas.List.{get_or-reverse, length-reverse, reverse-append, reverse-reverse, take_at}
use Rattle.std.proofs.lemmas.List.{take-append-le, get_or_at}
use Rattle.std.proofs.lemmas.List.Sums.{AllPass-from_list_all, list_all-from_AllPass, prefix_len-drop_no}
use Rattle.std.proofs.lemmas.List.Sums.{passes_at_first, split_at_first}
use Rattle.std.proofs.Math.Seq.{drop-append-add, take-length}
use Rattle.journal_lines.specs.Blank.{is_blank, first_solid, trim_start, trim_end, trim, is_trimmed}
use Rattle.journal_lines.specs.Comment.{has_no, front_of, comment_of}
pub use Rattle.money_core.proofs.ClassLemmas.{all_weaker, all_joined}
pub use Rattle.money_core.proofs.RoundTrip.{before_mark, no_mark}

-- blanks at the front
pub solid_behind : (us xs : List ℕ) → list_all is_blank us ≡ true → first_solid (us ++ xs) ≡ length us + first_solid xs
solid_behind [] xs h = omega arith
solid_behind (a ∷ us) xs h =
    let parts = and_parts (is_blank a) _ h in rw (parts.0, solid_behind us xs parts.1) (omega arith)

pub trim_start_behind : (us xs : List ℕ) → list_all is_blank us ≡ true → trim_start (us ++ xs) ≡ trim_start xs
unfolding trim_start
trim_start_behind us xs h = rw (solid_behind us xs h) (drop-append-add us xs (first_solid xs))

pub trim_start_same : (xs : List ℕ) → is_blank (slice_index xs 0) ≡ false → trim_start xs ≡ xs
unfolding trim_start
trim_start_same [] h = refl
trim_start_same (x ∷ xs) h = rw h refl

pub all_reverse : (p : ℕ → Bool) (xs : List ℕ) → list_all p xs ≡ true → list_all p (reverse xs) ≡ true
all_reverse p xs h =
    list_all-from_AllPass p (reverse xs) (λ k d l. let inside : k < length xs = omega (arith, length-reverse xs) in
    rw (get_or-reverse xs k d inside) (AllPass-from_list_all p xs h (length xs - 1 - k) d (omega arith)))

-- a text that does not end in a blank has none at its end
solid_back : (xs : List ℕ) → is_blank (slice_index xs (length xs - 1)) ≡ false → first_solid (reverse xs) ≡ 0
solid_back xs h = elim (cases_lt 0 (length xs)) [
  | inl some ↦ prefix_len-drop_no (λ b. not (not (is_blank b))) (reverse xs) 0 0 (omega (arith, length-reverse xs))
      (at some)
  | inr none ↦ nothing xs none
]
  where
    at : 0 < length xs → not (not (is_blank (get_or (reverse xs) 0 0))) ≡ false
    at some = let e : get_or (reverse xs) 0 0 ≡ get_or xs (length xs - 1) 0 =
        rw (get_or-reverse xs 0 0 some) (ap (λ n. get_or xs n 0) (omega arith)) in rw (e, h) refl

    nothing : (ys : List ℕ) → length ys ≤ 0 → first_solid (reverse ys) ≡ 0
    nothing [] l = refl
    nothing (y ∷ ys) l = absurd (omega arith)

-- blanks at the end
pub trim_end_before : (xs bs : List ℕ) → list_all is_blank bs ≡ true → is_blank (slice_index xs (length xs - 1)) ≡ false
    → trim_end (xs ++ bs) ≡ xs
unfolding trim_end
trim_end_before xs bs h k =
    rw (
      reverse-append xs bs,
      solid_behind (reverse bs) (reverse xs) (all_reverse is_blank bs h),
      solid_back xs k,
      length-reverse bs,
      length-append xs bs,
    )
    (take_at xs bs (length xs + length bs - (length bs + 0)) (omega arith))

pub trim_end_same : (xs : List ℕ) → is_blank (slice_index xs (length xs - 1)) ≡ false → trim_end xs ≡ xs
trim_end_same xs k = ap trim_end (sym (append-nil xs)) ∙ trim_end_before xs [] refl k

pub trim_start_blanks : (us : List ℕ) → list_all is_blank us ≡ true → trim_start us ≡ []
trim_start_blanks us h = ap trim_start (sym (append-nil us)) ∙ (trim_start_behind us [] h ∙ trim_start_same [] refl)

-- a text with no blank at either end, between blanks
pub trim_inside : (us xs bs : List ℕ) → list_all is_blank us ≡ true → list_all is_blank bs ≡ true → is_trimmed xs ≡ true
    → trim (us ++ (xs ++ bs)) ≡ xs
trim_inside us [] bs h k t = ap trim_end (trim_start_behind us bs h ∙ trim_start_blanks bs k) ∙ trim_end_same [] refl
trim_inside us (x ∷ xs) bs h k t =
    let parts = and_parts (not (is_blank x)) _ t in
    ap trim_end (trim_start_behind us (x ∷ (xs ++ bs)) h ∙ trim_start_same (x ∷ (xs ++ bs)) (not-true _ parts.0)) ∙
    trim_end_before (x ∷ xs) bs k (not-true _ parts.1)

pub trim_same : (xs : List ℕ) → is_trimmed xs ≡ true → trim xs ≡ xs
trim_same xs t = ap trim (sym (append-nil xs)) ∙ trim_inside [] xs [] refl refl t

pub front_whole : (line : List ℕ) → has_no 59 line ≡ true → front_of line ≡ line
unfolding front_of
front_whole line h = rw (no_mark (λ b. b == 59) line h) (take-length line)

pub no_comment : (line : List ℕ) → has_no 59 line ≡ true → comment_of line ≡ None
unfolding comment_of
no_comment line h = rw (no_mark (λ b. b == 59) line h, le-ltb (length line) (length line) (omega arith)) refl

-- what a comment line has
pub comment_behind : (front text : List ℕ) → has_no 59 front ≡ true → comment_of (front ++ 59 ∷ text) ≡ Some (trim text)
unfolding comment_of
comment_behind front text h =
    let inside : length front < length (front ++ 59 ∷ text) = rw (length-append front (59 ∷ text)) (omega arith) in
    rw (
      before_mark (λ b. b == 59) front text 59 h refl,
      lt-ltb (length front) (length (front ++ 59 ∷ text)) inside,
      drop-append-add front (59 ∷ text) 1,
    ) refl

-- parts of a list
pub all_take : (p : ℕ → Bool) (n : ℕ) (xs : List ℕ) → list_all p xs ≡ true → list_all p (take n xs) ≡ true
all_take p zero xs h = refl
all_take p (suc n) [] h = refl
all_take p (suc n) (x ∷ xs) h = let parts = and_parts (p x) _ h in and_from (p x) _ parts.0 (all_take p n xs parts.1)

pub all_drop : (p : ℕ → Bool) (n : ℕ) (xs : List ℕ) → list_all p xs ≡ true → list_all p (drop n xs) ≡ true
all_drop p zero xs h = h
all_drop p (suc n) [] h = refl
all_drop p (suc n) (x ∷ xs) h = let parts = and_parts (p x) _ h in all_drop p n xs parts.1

pub all_trim_start : (p : ℕ → Bool) (xs : List ℕ) → list_all p xs ≡ true → list_all p (trim_start xs) ≡ true
unfolding trim_start
all_trim_start p xs h = all_drop p (first_solid xs) xs h

pub all_trim_end : (p : ℕ → Bool) (xs : List ℕ) → list_all p xs ≡ true → list_all p (trim_end xs) ≡ true
unfolding trim_end
all_trim_end p xs h = all_take p (length xs - first_solid (reverse xs)) xs h

-- the first byte of a front
pub first_kept : (p : ℕ → Bool) (n : ℕ) (xs : List ℕ) → p (slice_index xs 0) ≡ true → p 0 ≡ true
    → p (slice_index (take n xs) 0) ≡ true
first_kept p zero xs h k = k
first_kept p (suc n) [] h k = k
first_kept p (suc n) (x ∷ xs) h k = h

pub first_trimmed : (p : ℕ → Bool) (xs : List ℕ) → p (slice_index xs 0) ≡ true → p 0 ≡ true
    → p (slice_index (trim_end xs) 0) ≡ true
unfolding trim_end
first_trimmed p xs h k = first_kept p (length xs - first_solid (reverse xs)) xs h k

-- after blanks no blank stands
pub trim_start_first : (xs : List ℕ) → is_blank (slice_index (trim_start xs) 0) ≡ false
trim_start_first [] = ap (λ (t : List ℕ). is_blank (slice_index t 0)) (trim_start_same [] refl)
trim_start_first (x ∷ xs) = elim (cases_Bool (is_blank x)) [
  | inl blank ↦ ap (λ (t : List ℕ). is_blank (slice_index t 0))
      (trim_start_behind (x ∷ []) xs (and_from (is_blank x) true blank refl)) ∙ trim_start_first xs
  | inr solid ↦ ap (λ (t : List ℕ). is_blank (slice_index t 0)) (trim_start_same (x ∷ xs) solid) ∙ solid
]

-- before blanks at the end
pub trim_end_blank : (xs : List ℕ) (b : ℕ) → is_blank b ≡ true → trim_end (xs ++ b ∷ []) ≡ trim_end xs
unfolding trim_end
trim_end_blank xs b h =
    let n : length xs + 1 - (1 + first_solid (reverse xs)) ≡ length xs - first_solid (reverse xs) = omega arith in
    rw (reverse-append xs (b ∷ []), h, length-append xs (b ∷ []), n)
    (take-append-le (length xs - first_solid (reverse xs)) xs (b ∷ []) (omega arith))

last_solid : (xs : List ℕ) → is_blank (slice_index (trim_end xs) (length (trim_end xs) - 1)) ≡ false
last_solid xs = subst (λ (t : List ℕ). is_blank (slice_index (trim_end t) (length (trim_end t) - 1)) ≡ false)
    (reverse-reverse xs) (backwards (reverse xs))
  where
    at_last : (ys : List ℕ) (y : ℕ) → is_blank y ≡ false
        → is_blank (slice_index (ys ++ y ∷ []) (length (ys ++ y ∷ []) - 1)) ≡ false
    at_last ys y h =
        ap is_blank (get_or_at ys y [] 0 (length (ys ++ y ∷ []) - 1) (omega (arith, length-append ys (y ∷ [])))) ∙ h

    backwards : (ys : List ℕ) → is_blank (slice_index (trim_end (reverse ys)) (length (trim_end (reverse ys)) - 1))
        ≡ false
    backwards [] = ap (λ (t : List ℕ). is_blank (slice_index t (length t - 1))) (trim_end_same [] refl)
    backwards (y ∷ ys) = elim (cases_Bool (is_blank y)) [
      | inl blank ↦ ap (λ (t : List ℕ). is_blank (slice_index t (length t - 1)))
          (ap trim_end (reverse-append (y ∷ []) ys) ∙ trim_end_blank (reverse ys) y blank) ∙ backwards ys
      | inr solid ↦ ap (λ (t : List ℕ). is_blank (slice_index t (length t - 1)))
          (ap trim_end (reverse-append (y ∷ []) ys) ∙ trim_end_same (reverse ys ++ y ∷ [])
          (at_last (reverse ys) y solid)) ∙ at_last (reverse ys) y solid
    ]

pub trim_end_trimmed : (xs : List ℕ) → is_blank (slice_index xs 0) ≡ false → is_trimmed (trim_end xs) ≡ true
trim_end_trimmed xs h =
    and_from _ _ (first_trimmed (λ b. not (is_blank b)) xs (not_from_false _ h) refl) (not_from_false _ (last_solid xs))

pub trim_trimmed : (xs : List ℕ) → is_trimmed (trim xs) ≡ true
trim_trimmed xs = trim_end_trimmed (trim_start xs) (trim_start_first xs)

-- before the first that passes none passes
pub before_none : (p : ℕ → Bool) (xs : List ℕ) → list_all (λ b. not (p b)) (take (position_or_len p xs) xs) ≡ true
before_none p [] = refl
before_none p (x ∷ xs) = elim (cases_Bool (p x)) [
  | inl here ↦ rw here refl
  | inr other ↦
      let n : 1 + position_or_len p xs ≡ suc (position_or_len p xs) = omega arith in
      rw (other, n) (rw other (before_none p xs))
]

-- the first mark, with what stands before and after it
pub at_mark : (m : ℕ) (xs : List ℕ) → position_or_len (λ b. b == m) xs < length xs
    → xs ≡ before_first (λ b. b == m) xs ++ (m ∷ after_first (λ b. b == m) xs)
at_mark m xs h =
    let here : get_or xs (position_or_len (λ b. b == m) xs) 0 ≡ m =
    eqb-true _ m (passes_at_first (λ b. b == m) xs 0 h) in
    split_at_first (λ b. b == m) xs 0 h ∙ ap
    (λ (b : ℕ). before_first (λ b. b == m) xs ++ (b ∷ after_first (λ b. b == m) xs)) here
