-- A header is read exactly where it has its form.
use Rattle.std.proofs.Common.{◌≡◌, ◌≤◌, ◌<◌, ◌+◌, ◌-◌, ◌++◌, ◌==◌, ℕ, suc, List, [], ◌∷◌, Bool, true, false, not, ◌&&◌}
use Rattle.std.proofs.Common.{◌||◌, length, take, drop, reverse, get_or, slice_index, arith, refl, ap, ◌∙◌, append-nil}
use Rattle.std.proofs.Common.{append_assoc, take-append-drop, sym, subst, Option, Some, None, Ok, inl, inr, ◌⊎◌}
use Rattle.std.proofs.Common.{length-append, nat_lt}
use Rattle.std.proofs.lemmas.Grind.{common_steps}
use Rattle.std.proofs.lemmas.Bool.{cases_Bool, cases_lt, and_parts, and_from, or_parts, not-true, lt-ltb, le-ltb}
use Rattle.std.proofs.lemmas.Bool.{ltb-true, ltb-false, eqb-true}
use Rattle.std.specs.List.{list_all, position_or_len, before_first, after_first}
use Rattle.std.specs.Char.{is_ascii_digit}
use Rattle.std.proofs.lemmas.List.{drop_at, get_or-reverse, length-drop, get_or-drop}
use Rattle.std.proofs.lemmas.List.Sums.{list_all-from_AllPass, fails_before_first, passes_at_first}
use Rattle.std.proofs.Math.Seq.{take-append_seam, drop-append-add, drop-cons}
use Rattle.money_core.specs.declared.day.Day.{Day}
use Rattle.journal_lines.specs.declared.header.Status.{Status}
use Rattle.journal_lines.specs.declared.header.Status.TheVariants.{Pending, Cleared}
use Rattle.journal_lines.specs.Blank.{is_blank, first_word, first_solid, trim_start, trim_end, is_trimmed}
use Rattle.journal_lines.specs.Comment.{has_no, front_of, comment_of}
use Rattle.journal_lines.specs.Date.{is_separator, is_month_or_day}
use Rattle.journal_lines.specs.DateReading.{behind_year, separator, month_part, day_part, HasDateParts, date_of}
use Rattle.journal_lines.specs.Header.{status_at, behind_status, HeaderParts, length_of}
use Rattle.journal_lines.specs.HeaderReading.{Coded, closed_code, code_at, behind_date, cut_header, is_coded_long}
use Rattle.journal_lines.specs.HeaderReading.{judged_header, dated_header, closed_header, header_of}
use Rattle.journal_lines.specs.HeaderForm.{status_text, code_text, is_closed, starts_so, IsRemark, ReadsHeader}
use Rattle.journal_lines.proofs.CutLemmas.{before_mark, at_mark, trim_start_behind, trim_start_same, trim_start_blanks}
use Rattle.journal_lines.proofs.CutLemmas.{trim_end_same, trim_inside, all_trim_end, front_whole, no_comment}
use Rattle.journal_lines.proofs.CutLemmas.{comment_behind, all_weaker, all_joined, trim_trimmed, trim_start_first}
use Rattle.journal_lines.proofs.CutLemmas.{trim_end_trimmed}
use Rattle.journal_lines.proofs.DateLemmas.{parts_of_date, reads_date, date_reads}
use Rattle.journal_lines.proofs.HeaderLemmas.{StartsBlank, date_ends, cond_cases, past, CodedOk, coded_ok, so_read}
use Rattle.journal_lines.proofs.HeaderLemmas.{all_behind_date, all_behind_status, front_none, date_first, status_first}

-- ---- what a date is made of

abbrev pub is_date_byte : ℕ → Bool
is_date_byte b = is_ascii_digit b || is_separator b

-- what passes before and after the first mark, and the mark
pub all_around : (p q : ℕ → Bool) (xs : List ℕ) → ((b : ℕ) → p b ≡ true → q b ≡ true)
    → list_all q (before_first p xs) ≡ true → list_all q (after_first p xs) ≡ true → list_all q xs ≡ true
all_around p q [] f h k = refl
all_around p q (x ∷ xs) f h k = elim (cases_Bool (p x)) [
  | inl here ↦ (let behind : list_all q xs ≡ true = rw here at k in and_from (q x) _ (f x here) behind)
  | inr other ↦ (let n : 1 + position_or_len p xs ≡ suc (position_or_len p xs) = omega arith in
      let m : suc (position_or_len p xs) + 1 ≡ suc (position_or_len p xs + 1) = omega arith in
      let front : list_all q (x ∷ take (position_or_len p xs) xs) ≡ true = rw (other, n) at h in
      let behind : list_all q (drop (position_or_len p xs + 1) xs) ≡ true = rw (other, n, m) at k in
      let parts = and_parts (q x) _ front in
      and_from (q x) _ parts.0 (all_around p q xs f parts.1 behind))
]

digit_byte : (b : ℕ) → is_ascii_digit b ≡ true → is_date_byte b ≡ true
digit_byte b h = rw h refl

short_digits : (part : List ℕ) → is_month_or_day part ≡ true → list_all is_date_byte part ≡ true
short_digits part h = let parts =
    and_parts ((length part == 1) || (length part == 2)) _ h in all_weaker is_ascii_digit is_date_byte part digit_byte
    parts.1

pub date_bytes : (text : List ℕ) → HasDateParts text → list_all is_date_byte text ≡ true
date_bytes text h =
    let mark : is_date_byte (separator text) ≡ true =
    or_right (is_ascii_digit (separator text)) (is_separator (separator text)) h.separated in
    let rest : list_all is_date_byte (behind_year text) ≡ true =
    all_around (λ b. b == separator text) is_date_byte (behind_year text)
    (λ b same. subst (λ (c : ℕ). is_date_byte c ≡ true) (sym (eqb-true b (separator text) same)) mark)
    (short_digits (month_part text) h.month) (short_digits (day_part text) h.day) in
    let split : text ≡ take 4 text ++ (separator text ∷ drop 5 text) =
    sym (take-append-drop 4 text) ∙ ap (λ (xs : List ℕ). take 4 text ++ xs) (drop-cons text 4 0 h.long) in
    subst (λ (xs : List ℕ). list_all is_date_byte xs ≡ true) (sym split)
    (all_joined is_date_byte (take 4 text) (separator text ∷ drop 5 text)
    (all_weaker is_ascii_digit is_date_byte (take 4 text) digit_byte h.year)
    (and_from (is_date_byte (separator text)) _ mark rest))
  where
    or_right : (a b : Bool) → b ≡ true → (a || b) ≡ true
    or_right true b k = refl
    or_right false b k = k

byte_no_blank : (b : ℕ) → is_date_byte b ≡ true → not (is_blank b) ≡ true
byte_no_blank b h = grind (arith, common_steps)

byte_no_semicolon : (b : ℕ) → is_date_byte b ≡ true → not (b == 59) ≡ true
byte_no_semicolon b h = grind (arith, common_steps)

-- ---- a line in the form of a header reads as its parts

pub blank_no_semicolon : (b : ℕ) → is_blank b ≡ true → not (b == 59) ≡ true
blank_no_semicolon b h = grind (arith, common_steps)

-- the description after blanks begins with its first byte
first_is : (text end : List ℕ) → is_trimmed text ≡ true → list_all is_blank end ≡ true
    → slice_index (trim_start (text ++ end)) 0 ≡ slice_index text 0
first_is [] end t h = ap (λ (xs : List ℕ). slice_index xs 0) (trim_start_blanks end h)
first_is (b ∷ text) end t h =
    let parts = and_parts (not (is_blank b)) _ t in
    ap (λ (xs : List ℕ). slice_index xs 0) (trim_start_same (b ∷ (text ++ end)) (not-true _ parts.0))

-- a code and what follows it
pub code_reads : (code : Option (List ℕ)) (gap text end : List ℕ) → is_closed code ≡ true → list_all is_blank gap ≡ true
    → list_all is_blank end ≡ true → is_trimmed text ≡ true
    → (code ≡ None → (slice_index text 0 == 40) ≡ false)
    → code_at (trim_start (code_text code ++ (gap ++ (text ++ end))))
    ≡ Some (record { code = code; rest = trim_start (text ++ end) })
unfolding code_at
code_reads None gap text end c g e t first =
    let start = trim_start_behind gap (text ++ end) g in
    let no : (slice_index (trim_start (text ++ end)) 0 == 40) ≡ false =
    ap (λ (b : ℕ). b == 40) (first_is text end t e) ∙ first refl in
    rw (start, no) refl
code_reads (Some code) gap text end c g e t first =
    let parts = and_parts (has_no 41 code) _ c in
    let rest = gap ++ (text ++ end) in
    let start : trim_start (40 ∷ ((code ++ 41 ∷ []) ++ rest)) ≡ 40 ∷ (code ++ 41 ∷ rest) =
    trim_start_same (40 ∷ ((code ++ 41 ∷ []) ++ rest)) refl ∙ ap (λ (xs : List ℕ). 40 ∷ xs)
    (append_assoc code (41 ∷ []) rest) in
    let inside : length code < length (code ++ 41 ∷ rest) = rw (length-append code (41 ∷ rest)) (omega arith) in
    rw (
      start,
      before_mark (λ b. b == 41) code rest 41 parts.0 refl,
      lt-ltb (length code) (length (code ++ 41 ∷ rest)) inside,
      take-append_seam code (41 ∷ rest),
      drop-append-add code (41 ∷ rest) 1,
      trim_start_behind gap (text ++ end) g,
    ) refl

-- what follows a status begins with none
no_sign : (n : ℕ) (code : Option (List ℕ)) (gap text end : List ℕ) → (40 == n) ≡ false → list_all is_blank gap ≡ true
    → list_all is_blank end ≡ true → is_trimmed text ≡ true
    → (code ≡ None → (slice_index text 0 == n) ≡ false)
    → (slice_index (trim_start (code_text code ++ (gap ++ (text ++ end)))) 0 == n) ≡ false
no_sign n None gap text end z g e t first =
    ap (λ (xs : List ℕ). slice_index xs 0 == n) (trim_start_behind gap (text ++ end) g) ∙
    (ap (λ (b : ℕ). b == n) (first_is text end t e) ∙ first refl)
no_sign n (Some code) gap text end z g e t first =
    ap (λ (xs : List ℕ). slice_index xs 0 == n)
    (trim_start_same (40 ∷ ((code ++ 41 ∷ []) ++ (gap ++ (text ++ end)))) refl) ∙ z

-- a status and what follows it
pub status_reads : (status : Option Status) (gap rest : List ℕ) → list_all is_blank gap ≡ true
    → (status ≡ None
    → ((slice_index (trim_start rest) 0 == 42) ≡ false) × ((slice_index (trim_start rest) 0 == 33) ≡ false))
    → (status_at (trim_start (status_text status ++ (gap ++ rest))) ≡ status)
    × (behind_status (trim_start (status_text status ++ (gap ++ rest))) ≡ trim_start rest)
unfolding status_at behind_status
status_reads None gap rest g first =
    let start = trim_start_behind gap rest g in
    let no = first refl in
    (rw (start, no.0, no.1) refl, rw (start, no.0, no.1) refl)
status_reads (Some Cleared) gap rest g first =
    let start : trim_start (42 ∷ (gap ++ rest)) ≡ 42 ∷ (gap ++ rest) = trim_start_same (42 ∷ (gap ++ rest)) refl in
    (rw start refl, rw start (trim_start_behind gap rest g))
status_reads (Some Pending) gap rest g first =
    let start : trim_start (33 ∷ (gap ++ rest)) ≡ 33 ∷ (gap ++ rest) = trim_start_same (33 ∷ (gap ++ rest)) refl in
    (rw start refl, rw start (trim_start_behind gap rest g))

-- the line before its comment
pub append_assoc_nine : (a b c d e f g h i : List ℕ)
    → a ++ (b ++ (c ++ (d ++ (e ++ (f ++ (g ++ (h ++ i))))))) ≡ (a ++ (b ++ (c ++ (d ++ (e ++ (f ++ (g ++ h))))))) ++ i
append_assoc_nine a b c d e f g h i = simp append_assoc

pub front_cut : (front rest : List ℕ) → has_no 59 front ≡ true → front_of (front ++ 59 ∷ rest) ≡ front
unfolding front_of
front_cut front rest h = rw (before_mark (λ b. b == 59) front rest 59 h refl) (take-append_seam front (59 ∷ rest))

-- the comment of a line
pub remark_reads : (front remark : List ℕ) (comment : Option (List ℕ)) → has_no 59 front ≡ true
    → IsRemark comment remark → (front_of (front ++ remark) ≡ front) × (comment_of (front ++ remark) ≡ comment)
remark_reads front remark None h none =
    subst (λ (r : List ℕ). (front_of (front ++ r) ≡ front) × (comment_of (front ++ r) ≡ None)) (sym none)
    (subst (λ (l : List ℕ). (front_of l ≡ front) × (comment_of l ≡ None)) (sym (append-nil front))
    (front_whole front h, no_comment front h))
remark_reads front remark (Some text) h w =
    let blanks = apart_blanks w.before w.after w.blanks in
    subst (λ (r : List ℕ). (front_of (front ++ r) ≡ front) × (comment_of (front ++ r) ≡ Some text)) (sym w.written) (
      front_cut front (w.before ++ (text ++ w.after)) h,
      comment_behind front (w.before ++ (text ++ w.after)) h ∙ ap (λ (t : List ℕ). Some t)
          (trim_inside w.before text w.after blanks.0 blanks.1 w.trimmed),
    )
  where
    apart_blanks : (a b : List ℕ) → list_all is_blank (a ++ b) ≡ true
        → (list_all is_blank a ≡ true) × (list_all is_blank b ≡ true)
    apart_blanks [] b h = (refl, h)
    apart_blanks (x ∷ a) b h = let parts = and_parts (is_blank x) _ h in let rest =
        apart_blanks a b parts.1 in (and_from (is_blank x) _ parts.0 rest.0, rest.1)

-- blanks in one row
pub in_row : (a b : List ℕ) → list_all is_blank (a ++ b) ≡ true
    → (list_all is_blank a ≡ true) × (list_all is_blank b ≡ true)
in_row [] b h = (refl, h)
in_row (x ∷ a) b h = let parts = and_parts (is_blank x) _ h in let rest =
    in_row a b parts.1 in (and_from (is_blank x) _ parts.0 rest.0, rest.1)

-- what follows the date begins with a blank, or is nothing
gap_starts : (gap : List ℕ) (status : Option Status) (code : Option (List ℕ)) (a b text end : List ℕ)
    → list_all is_blank gap ≡ true → list_all is_blank (a ++ (b ++ end)) ≡ true
    → (gap ≡ [] → (status ≡ None) × (code ≡ None) × (text ≡ []))
    → StartsBlank (gap ++ (status_text status ++ (a ++ (code_text code ++ (b ++ (text ++ end))))))
gap_starts (x ∷ gap) status code a b text end g rest none = (and_parts (is_blank x) _ g).0
gap_starts [] status code a b text end g rest none =
    let are = none refl in
    subst (λ (s : Option Status). StartsBlank (status_text s ++ (a ++ (code_text code ++ (b ++ (text ++ end))))))
    (sym are.0)
    (subst (λ (c : Option (List ℕ)). StartsBlank (a ++ (code_text c ++ (b ++ (text ++ end))))) (sym are.1)
    (subst (λ (t : List ℕ). StartsBlank (a ++ (b ++ (t ++ end)))) (sym are.2) (starts (a ++ (b ++ end)) rest)))
  where
    starts : (xs : List ℕ) → list_all is_blank xs ≡ true → StartsBlank xs
    starts [] h = tt
    starts (x ∷ xs) h = (and_parts (is_blank x) _ h).0

-- no `;` stands before the comment
pub status_no_semicolon : (status : Option Status) → has_no 59 (status_text status) ≡ true
status_no_semicolon None = refl
status_no_semicolon (Some Cleared) = refl
status_no_semicolon (Some Pending) = refl

code_no_semicolon : (code : Option (List ℕ)) → is_closed code ≡ true → has_no 59 (code_text code) ≡ true
code_no_semicolon None h = refl
code_no_semicolon (Some code) h = all_joined (λ b. not (b == 59)) code (41 ∷ []) (and_parts (has_no 41 code) _ h).1 refl

-- no sign begins the description where nothing stands before it
begins_free : (status : Option Status) (code : Option (List ℕ)) (b : ℕ) → starts_so status code b ≡ true → code ≡ None
    → ((b == 40) ≡ false) × (status ≡ None → ((b == 42) ≡ false) × ((b == 33) ≡ false))
begins_free status (Some code) b h e = absurd cc
begins_free None None b h e =
    let outer = and_parts (not (b == 42) && not (b == 33)) _ h in
    let inner = and_parts (not (b == 42)) _ outer.0 in
    (not-true _ outer.1, λ none. (not-true _ inner.0, not-true _ inner.1))
begins_free (Some status) None b h e = (not-true _ h, λ none. absurd cc)

-- how a line in the form of a header is cut
cut_is : (line : List ℕ) (parts : HeaderParts) → (r : ReadsHeader line parts)
    → cut_header line ≡ record {
      date = r.date;
      status = parts.status;
      coded = Some (record { code = parts.code; rest = trim_start (parts.description ++ r.end_gap) });
      comment = parts.comment;
    }
unfolding cut_header first_word behind_date
cut_is line parts r =
    let gaps = in_row r.gap (r.status_gap ++ (r.code_gap ++ r.end_gap)) r.blanks in
    let later = in_row r.status_gap (r.code_gap ++ r.end_gap) gaps.1 in
    let last = in_row r.code_gap r.end_gap later.1 in
    let behind = code_text parts.code ++ (r.code_gap ++ (parts.description ++ r.end_gap)) in
    let rest = status_text parts.status ++ (r.status_gap ++ behind) in
    let front = r.date ++ (r.gap ++ rest) in
    let bytes = date_bytes r.date (parts_of_date r.date parts.day r.is_date).0 in
    let no : list_all (λ b. not (b == 59)) front ≡ true =
    all_joined (λ b. not (b == 59)) r.date (r.gap ++ rest)
    (all_weaker is_date_byte (λ b. not (b == 59)) r.date byte_no_semicolon bytes)
    (all_joined (λ b. not (b == 59)) r.gap rest
    (all_weaker is_blank (λ b. not (b == 59)) r.gap blank_no_semicolon gaps.0)
    (all_joined (λ b. not (b == 59)) (status_text parts.status) (r.status_gap ++ behind)
    (status_no_semicolon parts.status)
    (all_joined (λ b. not (b == 59)) r.status_gap behind
    (all_weaker is_blank (λ b. not (b == 59)) r.status_gap blank_no_semicolon later.0)
    (all_joined (λ b. not (b == 59)) (code_text parts.code) (r.code_gap ++ (parts.description ++ r.end_gap))
    (code_no_semicolon parts.code r.closed)
    (all_joined (λ b. not (b == 59)) r.code_gap (parts.description ++ r.end_gap)
    (all_weaker is_blank (λ b. not (b == 59)) r.code_gap blank_no_semicolon last.0)
    (all_joined (λ b. not (b == 59)) parts.description r.end_gap r.uncommented
    (all_weaker is_blank (λ b. not (b == 59)) r.end_gap blank_no_semicolon last.1))))))) in
    let whole : line ≡ front ++ r.remark =
    r.written ∙ append_assoc_nine r.date r.gap (status_text parts.status) r.status_gap (code_text parts.code) r.code_gap
    parts.description r.end_gap r.remark in
    let remark = remark_reads front r.remark parts.comment no r.commented in
    let front_is : front_of line ≡ front = ap front_of whole ∙ remark.0 in
    let comment_is : comment_of line ≡ parts.comment = ap comment_of whole ∙ remark.1 in
    let ends =
    date_ends r.date (r.gap ++ rest) (all_weaker is_date_byte (λ b. not (is_blank b)) r.date byte_no_blank bytes)
    (gap_starts r.gap parts.status parts.code r.status_gap r.code_gap parts.description r.end_gap gaps.0 gaps.1 r.apart)
    in
    let free = begins_free parts.status parts.code (slice_index parts.description 0) r.begins in
    let status = status_reads parts.status r.status_gap behind later.0
    (λ none. (
      no_sign 42 parts.code r.code_gap parts.description r.end_gap refl last.0 last.1 r.trimmed
          (λ bare. ((free bare).1 none).0),
      no_sign 33 parts.code r.code_gap parts.description r.end_gap refl last.0 last.1 r.trimmed
          (λ bare. ((free bare).1 none).1),
    )) in
    let code = code_reads parts.code r.code_gap parts.description r.end_gap r.closed last.0 last.1 r.trimmed
    (λ bare. (free bare).0) in
    rw (
      front_is,
      comment_is,
      ends,
      take-append_seam r.date (r.gap ++ rest),
      drop_at r.date (r.gap ++ rest) (length r.date) refl,
      trim_start_behind r.gap rest gaps.0,
      status.0,
      status.1,
      code,
    ) refl

short_code : (code : Option (List ℕ)) → length_of code ≤ 100 → nat_lt 100 (length_of code) ≡ false
short_code code h = le-ltb 100 (length_of code) h

-- a line in the form of a header reads as its parts
pub form_reads : (line : List ℕ) (parts : HeaderParts) → ReadsHeader line parts → header_of line ≡ Ok parts
unfolding judged_header
form_reads line parts r =
    let gaps = in_row r.gap (r.status_gap ++ (r.code_gap ++ r.end_gap)) r.blanks in
    let later = in_row r.status_gap (r.code_gap ++ r.end_gap) gaps.1 in
    let last = in_row r.code_gap r.end_gap later.1 in
    let description : trim_end (trim_start (parts.description ++ r.end_gap)) ≡ parts.description =
    trim_inside [] parts.description r.end_gap refl last.1 r.trimmed in
    let day : date_of r.date ≡ Some parts.day = date_reads r.date parts.day r.is_date in
    rw (cut_is line parts r) (rw (
      short_code parts.code r.short_code,
      description,
      le-ltb 500 (length parts.description) r.short_description,
      le-ltb 900 (length_of parts.comment) r.short_comment,
      day,
    ) (rw description refl))

-- ---- a line that reads has the form

pub blanks_front : (xs : List ℕ) → list_all is_blank (take (first_solid xs) xs) ≡ true
blanks_front [] = refl
blanks_front (x ∷ xs) = elim (cases_Bool (is_blank x)) [
  | inl blank ↦ (let n : 1 + first_solid xs ≡ suc (first_solid xs) =
      omega arith in rw (blank, n) (rw blank (blanks_front xs)))
  | inr solid ↦ rw solid refl
]

pub split_start : (xs : List ℕ) → xs ≡ take (first_solid xs) xs ++ trim_start xs
unfolding trim_start
split_start xs = sym (take-append-drop (first_solid xs) xs)

-- the blanks that were cut off at the end
abbrev pub end_blanks : List ℕ → List ℕ
end_blanks xs = drop (length xs - first_solid (reverse xs)) xs

pub split_end : (xs : List ℕ) → xs ≡ trim_end xs ++ end_blanks xs
unfolding trim_end
split_end xs = sym (take-append-drop (length xs - first_solid (reverse xs)) xs)

pub blanks_end : (xs : List ℕ) → list_all is_blank (end_blanks xs) ≡ true
blanks_end xs = list_all-from_AllPass is_blank (end_blanks xs) (λ k d l.
    let n = length xs - first_solid (reverse xs) in
    let inside : n + k < length xs = omega (arith, length-drop n xs, l) in
    let place : length xs - 1 - (n + k) < first_solid (reverse xs) = omega (arith, inside) in
    let back : get_or (reverse xs) (length xs - 1 - (n + k)) d ≡ get_or xs (n + k) d =
    get_or-reverse xs (length xs - 1 - (n + k)) d (omega (arith, inside)) ∙ ap (λ i. get_or xs i d)
    (omega (arith, inside)) in
    let blank : not (is_blank (get_or (reverse xs) (length xs - 1 - (n + k)) d)) ≡ false =
    fails_before_first (λ b. not (is_blank b)) (reverse xs) (length xs - 1 - (n + k)) d place in
    ap is_blank (get_or-drop n xs k d ∙ sym back) ∙ not-false _ blank)
  where
    not-false : (b : Bool) → not b ≡ false → b ≡ true
    not-false true h = refl
    not-false false h = absurd cc

-- a status and the blanks after it
pub record StatusForm (text : List ℕ) (status : Option Status) (rest : List ℕ) : Type 0 where
  pub gap : List ℕ
  pub blanks : list_all is_blank gap ≡ true
  pub written : text ≡ status_text status ++ (gap ++ rest)

pub status_form : (text : List ℕ) → StatusForm text (status_at text) (behind_status text)
unfolding status_at behind_status
status_form [] = record { gap = []; blanks = refl; written = refl }
status_form (x ∷ xs) = elim (cases_Bool (x == 42)) [
  | inl star ↦ rw star (record {
    gap = take (first_solid xs) xs;
    blanks = blanks_front xs;
    written = ap (λ (b : ℕ). b ∷ xs) (eqb-true x 42 star) ∙ ap (λ (t : List ℕ). 42 ∷ t) (split_start xs);
  })
  | inr other ↦ elim (cases_Bool (x == 33)) [
    | inl shout ↦ rw (other, shout)
        (record {
          gap = take (first_solid xs) xs;
          blanks = blanks_front xs;
          written = ap (λ (b : ℕ). b ∷ xs) (eqb-true x 33 shout) ∙ ap (λ (t : List ℕ). 33 ∷ t) (split_start xs);
        })
    | inr bare ↦ rw (other, bare) (record { gap = []; blanks = refl; written = refl })
  ]
]

-- a code and the blanks after it
pub record CodeForm (text : List ℕ) (coded : Coded) : Type 0 where
  pub gap : List ℕ
  pub blanks : list_all is_blank gap ≡ true
  pub written : text ≡ code_text coded.code ++ (gap ++ coded.rest)

pub code_form : (text : List ℕ) (coded : Coded) → code_at text ≡ Some coded → CodeForm text coded
unfolding code_at
code_form text coded h =
    elim (cond_cases (slice_index text 0 == 40) (closed_code (drop 1 text)) (Some (record { code = None; rest = text }))
    (Some coded) h) [
      | inl bracket ↦ elim (cond_cases (nat_lt (position_or_len (λ b. b == 41) (drop 1 text)) (length (drop 1 text)))
          (Some (with_code (drop 1 text))) None (Some coded) bracket.1) [
            | inl closed ↦ (let same : with_code (drop 1 text) ≡ coded = (let closed_is = closed.1 in cc) in
                subst (λ (c : Coded). CodeForm text c) same (of_code text bracket.0 (ltb-true _ _ closed.0)))
            | inr none ↦ absurd (let none_is = none.1 in cc)
          ]
      | inr bare ↦ (let same : record { code = None; rest = text } ≡ coded = (let bare_is = bare.1 in cc) in
          subst (λ (c : Coded). CodeForm text c) same (record { gap = []; blanks = refl; written = refl }))
    ]
  where
    with_code : List ℕ → Coded
    with_code xs =
        record { code = Some (before_first (λ b. b == 41) xs); rest = trim_start (after_first (λ b. b == 41) xs) }

    of_code : (text : List ℕ) → (slice_index text 0 == 40) ≡ true
        → position_or_len (λ b. b == 41) (drop 1 text) < length (drop 1 text) → CodeForm text (with_code (drop 1 text))
    of_code [] first inside = absurd cc
    of_code (x ∷ xs) first inside =
        let code = before_first (λ b. b == 41) xs in
        let after = after_first (λ b. b == 41) xs in
        record {
          gap = take (first_solid after) after;
          blanks = blanks_front after;
          written = ap (λ (b : ℕ). b ∷ xs) (eqb-true x 40 first) ∙ ap (λ (t : List ℕ). 40 ∷ t)
              (at_mark 41 xs inside ∙ (sym (append_assoc code (41 ∷ []) after) ∙ ap
              (λ (t : List ℕ). (code ++ 41 ∷ []) ++ t) (split_start after)));
        }

-- the comment of a line
pub record RemarkForm (line front : List ℕ) (comment : Option (List ℕ)) : Type 0 where
  pub remark : List ℕ
  pub written : line ≡ front ++ remark
  pub is : IsRemark comment remark

pub blanks_joined : (a b : List ℕ) → list_all is_blank a ≡ true → list_all is_blank b ≡ true
    → list_all is_blank (a ++ b) ≡ true
blanks_joined a b h k = all_joined is_blank a b h k

pub remark_form : (line : List ℕ) → RemarkForm line (front_of line) (comment_of line)
unfolding front_of comment_of
remark_form line =
    let after = after_first (λ b. b == 59) line in
    elim (cases_lt (position_or_len (λ b. b == 59) line) (length line)) [
      | inl found ↦ rw (lt-ltb (position_or_len (λ b. b == 59) line) (length line) found) (record {
        remark = 59 ∷ after;
        written = at_mark 59 line found;
        is = record {
          before = take (first_solid after) after;
          after = end_blanks (trim_start after);
          written = ap (λ (t : List ℕ). 59 ∷ t)
              (split_start after ∙ ap (λ (t : List ℕ). take (first_solid after) after ++ t)
              (split_end (trim_start after)));
          blanks = blanks_joined (take (first_solid after) after) (end_blanks (trim_start after)) (blanks_front after)
              (blanks_end (trim_start after));
          trimmed = trim_trimmed after;
        };
      })
      | inr none ↦ rw (le-ltb (position_or_len (λ b. b == 59) line) (length line) none) (record {
        remark = [];
        written = sym (take_all (position_or_len (λ b. b == 59) line) line none) ∙ sym
            (append-nil (take (position_or_len (λ b. b == 59) line) line));
        is = refl;
      })
    ]
  where
    take_all : (n : ℕ) (xs : List ℕ) → length xs ≤ n → take n xs ≡ xs
    take_all n xs h = grind (arith, common_steps)

-- what follows the text up to the first blank is nothing, or begins with a blank
blank_or_nothing : (front : List ℕ)
    → (drop (position_or_len is_blank front) front ≡ [])
    ⊎ (is_blank (slice_index (drop (position_or_len is_blank front) front) 0) ≡ true)
blank_or_nothing front = elim (cases_lt (position_or_len is_blank front) (length front)) [
  | inl found ↦ inr (ap (λ (xs : List ℕ). is_blank (slice_index xs 0))
      (drop-cons front (position_or_len is_blank front) 0 found) ∙ passes_at_first is_blank front 0 found)
  | inr none ↦ inl (drop_all (position_or_len is_blank front) front none)
]
  where
    drop_all : (n : ℕ) (xs : List ℕ) → length xs ≤ n → drop n xs ≡ []
    drop_all n xs h = grind (arith, common_steps)

pub nothing_has_no_status : status_at [] ≡ None
unfolding status_at
nothing_has_no_status = refl

nothing_has_no_code : (coded : Coded) → code_at (behind_status []) ≡ Some coded
    → (coded.code ≡ None) × (coded.rest ≡ [])
unfolding code_at behind_status
nothing_has_no_code coded h =
    let same : record { code = None; rest = [] } ≡ coded = cc in
    (ap (λ (c : Coded). c.code) (sym same), ap (λ (c : Coded). c.rest) (sym same))

-- nothing after the date
nothing_behind : (dated : List ℕ) (coded : Coded) → dated ≡ [] → code_at (behind_status dated) ≡ Some coded
    → (status_at dated ≡ None) × (coded.code ≡ None) × (trim_end coded.rest ≡ [])
nothing_behind dated coded e h =
    let empty : code_at (behind_status []) ≡ Some coded =
    subst (λ (xs : List ℕ). code_at (behind_status xs) ≡ Some coded) e h in
    let parts = of_nothing coded empty in
    (ap status_at e ∙ no_status, parts.0, ap trim_end parts.1 ∙ trim_end_same [] refl)
  where
    no_status : status_at [] ≡ None
    no_status = nothing_has_no_status

    of_nothing : (coded : Coded) → code_at (behind_status []) ≡ Some coded → (coded.code ≡ None) × (coded.rest ≡ [])
    of_nothing coded h = nothing_has_no_code coded h

-- what follows the date, cut at its blanks
pub date_split : (front : List ℕ)
    → front ≡ first_word front
    ++ (take (first_solid (drop (position_or_len is_blank front) front)) (drop (position_or_len is_blank front) front)
    ++ behind_date front)
unfolding first_word behind_date
date_split front = sym (take-append-drop (position_or_len is_blank front) front) ∙ ap
    (λ (xs : List ℕ). before_first is_blank front ++ xs) (split_start (drop (position_or_len is_blank front) front))

-- a date with no blank after it has nothing there
pub nothing_apart : (front : List ℕ)
    → take (first_solid (drop (position_or_len is_blank front) front)) (drop (position_or_len is_blank front) front)
    ≡ [] → behind_date front ≡ []
unfolding behind_date
nothing_apart front none =
    let rest = drop (position_or_len is_blank front) front in
    let whole : rest ≡ trim_start rest = split_start rest ∙ ap (λ (xs : List ℕ). xs ++ trim_start rest) none in
    elim (blank_or_nothing front) [
      | inl nothing ↦ sym whole ∙ nothing
      | inr blank ↦ absurd (let solid : is_blank (slice_index rest 0) ≡ false =
          ap (λ (xs : List ℕ). is_blank (slice_index xs 0)) whole ∙ trim_start_first rest in cc)
    ]

-- the form of the parts that were cut
form_of_parts : (line : List ℕ) (day : Day) (coded : Coded) → date_of (first_word (front_of line)) ≡ Some day
    → code_at (behind_status (behind_date (front_of line))) ≡ Some coded
    → is_coded_long (Some coded) ≡ false → nat_lt 900 (length_of (comment_of line)) ≡ false
    → ReadsHeader line (record {
      day = day;
      status = status_at (behind_date (front_of line));
      code = coded.code;
      description = trim_end coded.rest;
      comment = comment_of line;
    })
form_of_parts line day coded date code long short =
    let front = front_of line in
    let dated = behind_date front in
    let text = behind_status dated in
    let behind = drop (position_or_len is_blank front) front in
    let gap = take (first_solid behind) behind in
    let status = status_form dated in
    let closing = code_form text coded code in
    let remark = remark_form line in
    let k = coded_ok text coded (status_first dated (date_first front)) code in
    let none =
    all_behind_status (λ b. not (b == 59)) dated (all_behind_date (λ b. not (b == 59)) front (front_none line)) in
    let sizes = or_parts (nat_lt 100 (length_of coded.code)) _ long in
    let inner : coded.rest ≡ trim_end coded.rest ++ end_blanks coded.rest = split_end coded.rest in
    let text_is : text ≡ code_text coded.code ++ (closing.gap ++ (trim_end coded.rest ++ end_blanks coded.rest)) =
    closing.written ∙ ap (λ (xs : List ℕ). code_text coded.code ++ (closing.gap ++ xs)) inner in
    let dated_is : dated ≡ status_text (status_at dated)
    ++ (status.gap ++ (code_text coded.code ++ (closing.gap ++ (trim_end coded.rest ++ end_blanks coded.rest)))) =
    status.written ∙ ap (λ (xs : List ℕ). status_text (status_at dated) ++ (status.gap ++ xs)) text_is in
    let front_is : front ≡ first_word front
    ++ (gap ++ (status_text (status_at dated)
    ++ (status.gap ++ (code_text coded.code ++ (closing.gap ++ (trim_end coded.rest ++ end_blanks coded.rest)))))) =
    date_split front ∙ ap (λ (xs : List ℕ). first_word front ++ (gap ++ xs)) dated_is in
    record {
      date = first_word front;
      gap = gap;
      status_gap = status.gap;
      code_gap = closing.gap;
      end_gap = end_blanks coded.rest;
      remark = remark.remark;
      written = remark.written ∙ (ap (λ (xs : List ℕ). xs ++ remark.remark) front_is
          ∙ sym (append_assoc_nine (first_word front) gap (status_text (status_at dated)) status.gap
          (code_text coded.code)
          closing.gap (trim_end coded.rest) (end_blanks coded.rest) remark.remark));
      is_date = reads_date (first_word front) day date;
      blanks = blanks_joined gap (status.gap ++ (closing.gap ++ end_blanks coded.rest)) (blanks_front behind)
          (blanks_joined status.gap (closing.gap ++ end_blanks coded.rest) status.blanks
          (blanks_joined closing.gap (end_blanks coded.rest) closing.blanks (blanks_end coded.rest)));
      apart = λ no_gap. nothing_behind dated coded (nothing_apart front no_gap) code;
      closed = closed_code_is text coded k none;
      trimmed = trim_end_trimmed coded.rest k.first;
      uncommented = all_trim_end (λ b. not (b == 59)) coded.rest (k.inside (λ b. not (b == 59)) none);
      begins = so_read (status_at dated) dated coded k refl;
      commented = remark.is;
      short_code = ltb-false 100 (length_of coded.code) sizes.0;
      short_description = ltb-false 500 (length (trim_end coded.rest)) sizes.1;
      short_comment = ltb-false 900 (length_of (comment_of line)) short;
    }
  where
    closed_code_is : (text : List ℕ) (coded : Coded) → CodedOk text coded → has_no 59 text ≡ true
        → is_closed coded.code ≡ true
    closed_code_is text coded k none = at coded.code refl
      where
        at : (o : Option (List ℕ)) → coded.code ≡ o → is_closed o ≡ true
        at None e = refl
        at (Some code) e = and_from _ _ (k.open_end code e) (k.within (λ b. not (b == 59)) code e none)

-- the parts of a line that reads are written in it
pub reads_form : (line : List ℕ) (parts : HeaderParts) → header_of line ≡ Ok parts → ReadsHeader line parts
unfolding judged_header cut_header
reads_form line parts e =
    let dated = behind_date (front_of line) in
    let one =
    past (is_coded_long (code_at (behind_status dated)) || nat_lt 900 (length_of (comment_of line))) _ _ parts e in
    let limits = or_parts (is_coded_long (code_at (behind_status dated))) _ one.0 in
    at_date (date_of (first_word (front_of line))) refl (code_at (behind_status dated)) refl limits.0 limits.1 one.1
  where
    at_coded : (day : Day) → date_of (first_word (front_of line)) ≡ Some day → (o : Option Coded)
        → code_at (behind_status (behind_date (front_of line))) ≡ o → is_coded_long o ≡ false
        → nat_lt 900 (length_of (comment_of line)) ≡ false
        → closed_header (cut_header line) day o ≡ Ok parts → ReadsHeader line parts
    at_coded day date None q long short r = absurd cc
    at_coded day date (Some coded) q long short r =
        let dated = behind_date (front_of line) in
        let same : record {
          day = day;
          status = status_at dated;
          code = coded.code;
          description = trim_end coded.rest;
          comment = comment_of line;
        } ≡ parts = cc in
        subst (λ (p : HeaderParts). ReadsHeader line p) same (form_of_parts line day coded date q long short)

    at_date : (o : Option Day) → date_of (first_word (front_of line)) ≡ o → (c : Option Coded)
        → code_at (behind_status (behind_date (front_of line))) ≡ c → is_coded_long c ≡ false
        → nat_lt 900 (length_of (comment_of line)) ≡ false
        → dated_header (cut_header line) o ≡ Ok parts → ReadsHeader line parts
    at_date None q c r long short f = absurd cc
    at_date (Some day) q c r long short f =
        at_coded day q c r long short
        (subst (λ (x : Option Coded). closed_header (cut_header line) day x ≡ Ok parts) r f)
