-- What is cut out of a line of UTF-8 is UTF-8, and what is put together of UTF-8.
use Rattle.std.proofs.Common.{◌≡◌, ◌≤◌, ◌<◌, ◌+◌, ◌-◌, ◌++◌, ◌==◌, ℕ, suc, List, [], ◌∷◌, Bool, true, not, ◌||◌, length}
use Rattle.std.proofs.Common.{take, drop, slice_index, arith, refl, ap, ◌∙◌, sym, subst, Option, Some, None, Ok, inl}
use Rattle.std.proofs.Common.{inr, ◌⊎◌, nat_lt, length-append, position}
use Rattle.std.specs.Prelude.{reverse}
use Rattle.std.proofs.lemmas.Grind.{common_steps}
use Rattle.std.proofs.lemmas.Bool.{cases_Bool, cases_lt, and_from, eqb-true}
use Rattle.std.specs.Char.{is_ascii_digit}
use Rattle.std.specs.List.{position_or_len, before_first, after_first}
use Rattle.std.specs.Str.{is_utf8, IsCharBoundary}
use lib.Dec.{ltb}
use Rattle.journal_lines.proofs.LineSteps.{found_place}
use Rattle.std.proofs.lemmas.Str.{IsUtf8-nil, IsUtf8-take, IsUtf8-drop, IsCharBoundary-after_ascii, IsUtf8-from_is_utf8}
use Rattle.std.proofs.lemmas.Str.{is_utf8-from_IsUtf8}
use Rattle.std.proofs.lemmas.List.{take_at, drop_all, reverse-append, reverse-reverse, get_or_at}
use Rattle.money_core.specs.declared.day.Day.{Day}
use Rattle.journal_lines.specs.declared.header.Status.{Status}
use Rattle.journal_lines.specs.declared.header.Status.TheVariants.{Pending, Cleared}
use Rattle.journal_lines.specs.Blank.{is_blank, first_word, first_solid, trim_start, trim_end, trim}
use Rattle.journal_lines.specs.Comment.{front_of, comment_of}
use Rattle.journal_lines.specs.Date.{printed_date, IsDateText}
use Rattle.journal_lines.specs.DateReading.{date_of}
use Rattle.journal_lines.specs.Header.{behind_status, HeaderParts, length_of, status_at}
use Rattle.journal_lines.specs.HeaderReading.{Coded, closed_code, code_at, behind_date, cut_header, judged_header}
use Rattle.journal_lines.specs.HeaderReading.{dated_header, closed_header, is_coded_long, header_of}
use Rattle.journal_lines.specs.Utf8.{is_utf8_or_none, IsUtf8Header}
use Rattle.journal_lines.specs.Printed.{indent, header_status, header_code, header_line, spaced_text, comment_line}
use Rattle.journal_lines.specs.AccountName.{ends_name, name_end}
use Rattle.journal_lines.proofs.CutLemmas.{trim_start_behind, trim_start_same, trim_end_same, trim_end_blank}
use Rattle.journal_lines.proofs.CutLemmas.{all_weaker}
use Rattle.journal_lines.proofs.HeaderLemmas.{past, cond_cases}
pub use Rattle.money_core.proofs.Utf8Lemmas.{utf8_joined, is_low, utf8_low}

-- a text may be cut before an ASCII byte, and at its end
pub record IsCut (xs : List ℕ) (n : ℕ) : Type 0 where
  pub inside : n ≤ length xs
  pub low : n < length xs → slice_index xs n < 128

pub cut_utf8 : (xs : List ℕ) (n : ℕ) → is_utf8 xs ≡ true → IsCut xs n
    → (is_utf8 (take n xs) ≡ true) × (is_utf8 (drop n xs) ≡ true)
cut_utf8 xs n h c =
    let u = IsUtf8-from_is_utf8 xs h in
    let boundary : IsCharBoundary xs n = (c.inside, λ l a. absurd (omega (arith, c.low l, a))) in (
      is_utf8-from_IsUtf8 (take n xs) (IsUtf8-take xs n u boundary),
      is_utf8-from_IsUtf8 (drop n xs) (IsUtf8-drop xs n u boundary),
    )

-- and after one
pub behind_utf8 : (xs : List ℕ) (n : ℕ) → is_utf8 xs ≡ true → n < length xs → slice_index xs n < 128
    → is_utf8 (drop (n + 1) xs) ≡ true
behind_utf8 xs n h l low = let u =
    IsUtf8-from_is_utf8 xs h in is_utf8-from_IsUtf8 (drop (n + 1) xs)
    (IsUtf8-drop xs (n + 1) u (IsCharBoundary-after_ascii xs n u l low))

pub empty_utf8 : is_utf8 [] ≡ true
empty_utf8 = is_utf8-from_IsUtf8 [] IsUtf8-nil

-- one byte further on
pub later_cut : (x : ℕ) (xs : List ℕ) (n : ℕ) → IsCut xs n → IsCut (x ∷ xs) (1 + n)
later_cut x xs n k = record {
  inside = omega (arith, k.inside);
  low = λ l.
      subst (λ (m : ℕ). slice_index (x ∷ xs) m < 128) step (k.low (omega (arith, l)));
}
  where
    step : suc n ≡ 1 + n
    step = omega arith

-- where the first byte stands that passes a test of ASCII bytes
pub position_cut : (p : ℕ → Bool) → ((b : ℕ) → p b ≡ true → b < 128) → (xs : List ℕ) → IsCut xs (position_or_len p xs)
position_cut p low [] = record { inside = omega arith; low = λ l. absurd (omega (arith, l)) }
position_cut p low (x ∷ xs) = elim (cases_Bool (p x)) [
  | inl here ↦ rw here (record { inside = omega arith; low = λ l. low x here })
  | inr later ↦ rw later (later_cut x xs (position_or_len p xs) (position_cut p low xs))
]

pub blank_low : (b : ℕ) → is_blank b ≡ true → b < 128
blank_low b h = grind (arith, common_steps)

pub sign_low : (n b : ℕ) → n < 128 → (b == n) ≡ true → b < 128
sign_low n b h e = omega (arith, h, eqb-true b n e)

-- where a name ends
pub name_cut : (xs : List ℕ) → IsCut xs (name_end xs)
unfolding name_end
name_cut [] = record { inside = omega arith; low = λ l. absurd (omega (arith, l)) }
name_cut (x ∷ xs) = elim (cases_Bool (ends_name x xs)) [
  | inl here ↦ rw here (record { inside = omega arith; low = λ l. low x xs here })
  | inr later ↦ rw later (later_cut x xs (name_end xs) (name_cut xs))
]
  where
    low : (b : ℕ) (rest : List ℕ) → ends_name b rest ≡ true → b < 128
    low b [] h = grind (arith, common_steps)
    low b (c ∷ rest) h = grind (arith, common_steps)

-- parts between the bytes that pass
pub before_utf8 : (p : ℕ → Bool) → ((b : ℕ) → p b ≡ true → b < 128) → (xs : List ℕ) → is_utf8 xs ≡ true
    → is_utf8 (before_first p xs) ≡ true
before_utf8 p low xs h = (cut_utf8 xs (position_or_len p xs) h (position_cut p low xs)).0

pub after_utf8 : (p : ℕ → Bool) → ((b : ℕ) → p b ≡ true → b < 128) → (xs : List ℕ) → is_utf8 xs ≡ true
    → is_utf8 (after_first p xs) ≡ true
after_utf8 p low xs h = elim (cases_lt (position_or_len p xs) (length xs)) [
  | inl found ↦ behind_utf8 xs (position_or_len p xs) h found ((position_cut p low xs).low found)
  | inr none ↦ ap is_utf8 (drop_all (position_or_len p xs + 1) xs (omega (arith, none))) ∙ empty_utf8
]

-- texts without blanks at their ends
pub trim_start_utf8 : (xs : List ℕ) → is_utf8 xs ≡ true → is_utf8 (trim_start xs) ≡ true
trim_start_utf8 [] h = ap is_utf8 (trim_start_same [] refl) ∙ h
trim_start_utf8 (x ∷ xs) h = elim (cases_Bool (is_blank x)) [
  | inl blank ↦ ap is_utf8 (trim_start_behind (x ∷ []) xs (and_from (is_blank x) true blank refl)) ∙ trim_start_utf8 xs
      (behind_utf8 (x ∷ xs) 0 h (omega arith) (blank_low x blank))
  | inr solid ↦ ap is_utf8 (trim_start_same (x ∷ xs) solid) ∙ h
]

pub trim_end_utf8 : (xs : List ℕ) → is_utf8 xs ≡ true → is_utf8 (trim_end xs) ≡ true
trim_end_utf8 xs h = subst (λ (ys : List ℕ). is_utf8 (trim_end ys) ≡ true) (reverse-reverse xs)
    (backwards (reverse xs) (subst (λ (ys : List ℕ). is_utf8 ys ≡ true) (sym (reverse-reverse xs)) h))
  where
    last_byte : (ys : List ℕ) (y : ℕ) → slice_index (ys ++ y ∷ []) (length (ys ++ y ∷ []) - 1) ≡ y
    last_byte ys y = get_or_at ys y [] 0 (length (ys ++ y ∷ []) - 1) (omega (arith, length-append ys (y ∷ [])))

    at_seam : (ys : List ℕ) (y : ℕ) → slice_index (ys ++ y ∷ []) (length ys) ≡ y
    at_seam ys y = get_or_at ys y [] 0 (length ys) refl

    backwards : (ys : List ℕ) → is_utf8 (reverse ys) ≡ true → is_utf8 (trim_end (reverse ys)) ≡ true
    backwards [] k = ap is_utf8 (trim_end_same [] refl) ∙ k
    backwards (y ∷ ys) k = elim (cases_Bool (is_blank y)) [
      | inl blank ↦
          (let whole : is_utf8 (reverse ys ++ y ∷ []) ≡ true = ap is_utf8 (sym (reverse-append (y ∷ []) ys)) ∙ k in
          let cut = cut_utf8 (reverse ys ++ y ∷ []) (length (reverse ys)) whole
          (record {
            inside = omega (arith, length-append (reverse ys) (y ∷ []));
            low = λ l.
                omega (arith, at_seam (reverse ys) y, blank_low y blank);
          }) in
          let front : is_utf8 (reverse ys) ≡ true =
          ap is_utf8 (sym (take_at (reverse ys) (y ∷ []) (length (reverse ys)) refl)) ∙ cut.0 in
          ap is_utf8 (ap trim_end (reverse-append (y ∷ []) ys) ∙ trim_end_blank (reverse ys) y blank) ∙ backwards ys
          front)
      | inr solid ↦ ap is_utf8 (ap trim_end (reverse-append (y ∷ []) ys) ∙
          (trim_end_same (reverse ys ++ y ∷ []) (ap is_blank (last_byte (reverse ys) y) ∙ solid) ∙ sym
          (reverse-append (y ∷ []) ys))) ∙ k
    ]

-- the text up to the first blank
pub first_word_utf8 : (text : List ℕ) → is_utf8 text ≡ true → is_utf8 (first_word text) ≡ true
unfolding first_word
first_word_utf8 text h = before_utf8 is_blank blank_low text h

-- what stands before and after the first `;`
pub front_utf8 : (line : List ℕ) → is_utf8 line ≡ true → is_utf8 (front_of line) ≡ true
unfolding front_of
front_utf8 line h = before_utf8 (λ b. b == 59) (λ b. sign_low 59 b (omega arith)) line h

pub comment_utf8 : (line text : List ℕ) → is_utf8 line ≡ true → comment_of line ≡ Some text → is_utf8 text ≡ true
unfolding comment_of
comment_utf8 line text h e = elim
    (cond_cases (nat_lt (position_or_len (λ b. b == 59) line) (length line))
    (Some (trim (after_first (λ b. b == 59) line)))
    None (Some text) e) [
      | inl found ↦
          (let q : trim (after_first (λ b. b == 59) line) ≡ text = (let found_is = found.1 in cc) in
          ap is_utf8 (sym q) ∙ trim_end_utf8 _
          (trim_start_utf8 _ (after_utf8 (λ b. b == 59) (λ b. sign_low 59 b (omega arith)) line h)))
      | inr none ↦ absurd (let none_is = none.1 in cc)
    ]

-- a status is cut off
pub status_utf8 : (text : List ℕ) → is_utf8 text ≡ true → is_utf8 (behind_status text) ≡ true
unfolding behind_status
status_utf8 [] h = h
status_utf8 (b ∷ bs) h = elim (cases_Bool ((b == 42) || (b == 33))) [
  | inl sign ↦ rw sign (trim_start_utf8 bs (behind_utf8 (b ∷ bs) 0 h (omega arith) (low b sign)))
  | inr none ↦ rw none h
]
  where
    low : (b : ℕ) → ((b == 42) || (b == 33)) ≡ true → b < 128
    low b h = grind (arith, common_steps)

-- the parts of a code
record CodedUtf8 (coded : Coded) : Type 0 where
  code : is_utf8_or_none coded.code ≡ true
  rest : is_utf8 coded.rest ≡ true

coded_utf8 : (text : List ℕ) (coded : Coded) → is_utf8 text ≡ true → code_at text ≡ Some coded → CodedUtf8 coded
unfolding code_at
coded_utf8 text coded h e = elim (cond_cases (slice_index text 0 == 40) (closed_code (drop 1 text)) _ (Some coded) e) [
  | inl starts ↦ closed (inner text h starts.0) starts.1
  | inr none ↦ (let same : record { code = None; rest = text } ≡ coded =
      (let none_is = none.1 in cc) in subst CodedUtf8 same (record { code = refl; rest = h }))
]
  where
    inner : (xs : List ℕ) → is_utf8 xs ≡ true → (slice_index xs 0 == 40) ≡ true → is_utf8 (drop 1 xs) ≡ true
    inner [] k s = k
    inner (x ∷ xs) k s = behind_utf8 (x ∷ xs) 0 k (omega arith) (sign_low 40 x (omega arith) s)

    closed : is_utf8 (drop 1 text) ≡ true → closed_code (drop 1 text) ≡ Some coded → CodedUtf8 coded
    closed k c = elim (cond_cases (nat_lt (position_or_len (λ b. b == 41) (drop 1 text)) (length (drop 1 text))) _ None
        (Some coded) c) [
          | inl found ↦
              (let made : Coded = record {
                code = Some (before_first (λ b. b == 41) (drop 1 text));
                rest = trim_start (after_first (λ b. b == 41) (drop 1 text));
              } in
              let same : made ≡ coded = (let found_is = found.1 in cc) in
              subst CodedUtf8 same (record {
                code = before_utf8 (λ b. b == 41) (λ b. sign_low 41 b (omega arith)) (drop 1 text) k;
                rest = trim_start_utf8 _ (after_utf8 (λ b. b == 41) (λ b. sign_low 41 b (omega arith)) (drop 1 text) k);
              }))
          | inr none ↦ absurd (let none_is = none.1 in cc)
        ]

-- the parts of a header
pub header_utf8 : (line : List ℕ) (h : HeaderParts) → is_utf8 line ≡ true → header_of line ≡ Ok h → IsUtf8Header h
unfolding judged_header cut_header behind_date
header_utf8 line h u e = at_date (date_of (cut_header line).date)
    (past (is_coded_long (cut_header line).coded || nat_lt 900 (length_of (comment_of line))) _ _ h e).1
  where
    rest : List ℕ
    rest = behind_status (behind_date (front_of line))

    rest_utf8 : is_utf8 rest ≡ true
    rest_utf8 =
        let front = front_utf8 line u in
        status_utf8 _ (trim_start_utf8 _
        (cut_utf8 (front_of line) (position_or_len is_blank (front_of line)) front
        (position_cut is_blank blank_low (front_of line))).1)

    some_comment : (o : Option (List ℕ)) → comment_of line ≡ o → is_utf8_or_none o ≡ true
    some_comment None q = refl
    some_comment (Some text) q = comment_utf8 line text u q

    at_coded : (day : Day) (o : Option Coded) → code_at rest ≡ o → closed_header (cut_header line) day o ≡ Ok h
        → IsUtf8Header h
    at_coded day None q f = absurd cc
    at_coded day (Some coded) q f =
        let k = coded_utf8 rest coded rest_utf8 q in
        let made : HeaderParts = record {
          day = day;
          status = status_at (behind_date (front_of line));
          code = coded.code;
          description = trim_end coded.rest;
          comment = comment_of line;
        } in
        let same : made ≡ h = cc in
        subst IsUtf8Header same (record {
          code = k.code;
          description = trim_end_utf8 coded.rest k.rest;
          comment = some_comment (comment_of line) refl;
        })

    at_date : (o : Option Day) → dated_header (cut_header line) o ≡ Ok h → IsUtf8Header h
    at_date None f = absurd cc
    at_date (Some day) f = at_coded day (code_at rest) refl f

-- ---- texts that are put together

pub date_low : (b : ℕ) → (is_ascii_digit b || (b == 45)) ≡ true → is_low b ≡ true
date_low b h = grind (arith, common_steps)

-- a printed header line
pub header_line_utf8 : (day : Day) (status : Option Status) (code : Option (List ℕ)) (text : List ℕ)
    → IsDateText day (printed_date day) → is_utf8_or_none code ≡ true → is_utf8 text ≡ true
    → is_utf8 (header_line day status code text) ≡ true
unfolding header_line
header_line_utf8 day status code text date c d =
    utf8_joined (printed_date day) _
    (utf8_low (printed_date day)
    (all_weaker (λ b. is_ascii_digit b || (b == 45)) is_low (printed_date day) date_low date.form))
    (utf8_joined (header_status status) _ (of_status status)
    (utf8_joined (header_code code) (spaced_text text) (of_code code c) (of_text text d)))
  where
    of_status : (s : Option Status) → is_utf8 (header_status s) ≡ true
    of_status None = utf8_low [] refl
    of_status (Some Pending) = utf8_low (32 ∷ 33 ∷ []) refl
    of_status (Some Cleared) = utf8_low (32 ∷ 42 ∷ []) refl

    of_code : (o : Option (List ℕ)) → is_utf8_or_none o ≡ true → is_utf8 (header_code o) ≡ true
    of_code None h = utf8_low [] refl
    of_code (Some c) h = utf8_joined (32 ∷ 40 ∷ []) (c ++ 41 ∷ []) (utf8_low (32 ∷ 40 ∷ []) refl)
        (utf8_joined c (41 ∷ []) h (utf8_low (41 ∷ []) refl))

    of_text : (t : List ℕ) → is_utf8 t ≡ true → is_utf8 (spaced_text t) ≡ true
    of_text [] h = utf8_low [] refl
    of_text (b ∷ bs) h = utf8_joined (32 ∷ []) (b ∷ bs) (utf8_low (32 ∷ []) refl) h

-- a printed comment line
pub comment_line_utf8 : (text : List ℕ) → is_utf8 text ≡ true → is_utf8 (comment_line text) ≡ true
unfolding comment_line
comment_line_utf8 [] h = utf8_low (indent ++ 59 ∷ []) refl
comment_line_utf8 (b ∷ bs) h =
    utf8_joined (32 ∷ 32 ∷ 32 ∷ 32 ∷ 59 ∷ 32 ∷ []) (b ∷ bs) (utf8_low (32 ∷ 32 ∷ 32 ∷ 32 ∷ 59 ∷ 32 ∷ []) refl) h

-- ---- as the calls find their places

-- before, from and after a place that was found
pub found_utf8 : (p : ℕ → Bool) → ((b : ℕ) → p b ≡ true → b < 128) → (text : List ℕ) (at : ℕ)
    → Some at ≡ position p text → is_utf8 text ≡ true
    → (is_utf8 (take at text) ≡ true) × (is_utf8 (drop (at + 1) text) ≡ true)
found_utf8 p low text at e h =
    let place = found_place (ltb (position_or_len p text) (length text)) at (position_or_len p text) e in (
      ap (λ (n : ℕ). is_utf8 (take n text)) place.1 ∙ before_utf8 p low text h,
      ap (λ (n : ℕ). is_utf8 (drop (n + 1) text)) place.1 ∙ after_utf8 p low text h,
    )

pub word_found : (text : List ℕ) (at : ℕ) → Some at ≡ position is_blank text → is_utf8 text ≡ true
    → is_utf8 (take at text) ≡ true
word_found text at e h = (found_utf8 is_blank blank_low text at e h).0

pub front_found : (line : List ℕ) (at : ℕ) → Some at ≡ position (λ b. b == 59) line → is_utf8 line ≡ true
    → (is_utf8 (take at line) ≡ true) × (is_utf8 (drop (at + 1) line) ≡ true)
front_found line at e h = found_utf8 (λ b. b == 59) (λ b. sign_low 59 b (omega arith)) line at e h

pub start_found : (text : List ℕ) (at : ℕ) → Some at ≡ position (λ b. not (is_blank b)) text → is_utf8 text ≡ true
    → is_utf8 (drop at text) ≡ true
unfolding trim_start
start_found text at e h =
    let place = found_place (ltb (first_solid text) (length text)) at (first_solid text) e in
    ap (λ (n : ℕ). is_utf8 (drop n text)) place.1 ∙ trim_start_utf8 text h

pub end_found : (text : List ℕ) (count : ℕ) → Some count ≡ position (λ b. not (is_blank b)) (reverse text)
    → is_utf8 text ≡ true → is_utf8 (take (length text - count) text) ≡ true
unfolding trim_end
end_found text count e h =
    let place =
    found_place (ltb (first_solid (reverse text)) (length (reverse text))) count (first_solid (reverse text)) e in
    ap (λ (n : ℕ). is_utf8 (take (length text - n) text)) place.1 ∙ trim_end_utf8 text h

-- where a name ends
pub name_boundary : (text : List ℕ) → IsCharBoundary text (name_end text)
name_boundary text = let cut = name_cut text in (cut.inside, λ l a. absurd (omega (arith, cut.low l, a)))

-- after a sign
pub sign_utf8 : (text : List ℕ) (first : ℕ) → (first ≡ 42) ⊎ ((first ≡ 42 → ⊥) × (first ≡ 33))
    → first ≡ slice_index text 0 → is_utf8 text ≡ true → is_utf8 (drop 1 text) ≡ true
sign_utf8 [] first sign is h = h
sign_utf8 (b ∷ bs) first sign is h = behind_utf8 (b ∷ bs) 0 h (omega arith) (omega (arith, is, sign))
