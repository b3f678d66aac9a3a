-- A printed comment line and a printed header line read back as their parts, and what is read prints so.
use Rattle.std.proofs.Common.{◌≡◌, ◌≤◌, ◌<◌, ◌+◌, ◌++◌, ◌==◌, ℕ, List, [], ◌∷◌, Bool, true, false, cond, not, ◌&&◌}
use Rattle.std.proofs.Common.{◌||◌, length, drop, slice_index, arith, refl, ap, ◌∙◌, append-nil, append_assoc, sym}
use Rattle.std.proofs.Common.{subst, Option, Some, None, Ok, inl, inr, ◌⊎◌, length-append, nat_lt, nat_le}
use Rattle.std.proofs.lemmas.Grind.{common_steps}
use Rattle.std.proofs.lemmas.Bool.{cases_Bool, and_parts, and_from, or_parts, not-true, not_from_false, lt-ltb, le-ltb}
use Rattle.std.proofs.lemmas.Bool.{le-leb, leb-true, ltb-false}
use Rattle.std.specs.List.{list_all, position_or_len, before_first, after_first}
use Rattle.std.specs.Char.{is_ascii_digit}
use Rattle.std.proofs.lemmas.List.{drop_at}
use Rattle.std.proofs.Math.Seq.{take-append_seam, drop-append-add}
use Rattle.money_core.specs.declared.day.Day.{Day}
use Rattle.journal_lines.specs.declared.header.Status.{Status}
use Rattle.journal_lines.specs.declared.header.Status.TheVariants.{Pending, Cleared}
use Rattle.journal_lines.specs.Blank.{is_blank, first_word, trim_start, trim_end, trim, is_trimmed}
use Rattle.journal_lines.specs.Comment.{has_no, front_of, comment_of}
use Rattle.journal_lines.specs.Date.{printed_date, IsDateText, IsDayNumber}
use Rattle.journal_lines.specs.DateReading.{date_of}
use Rattle.journal_lines.specs.Header.{code_limit, description_limit, status_at, behind_status, HeaderParts, length_of}
use Rattle.journal_lines.specs.HeaderReading.{Coded, code_at, behind_date, cut_header, is_coded_long, judged_header}
use Rattle.journal_lines.specs.HeaderReading.{dated_header, closed_header, header_of}
use Rattle.journal_lines.specs.Printed.{is_clean, indent, header_status, header_code, header_line, spaced_text}
use Rattle.journal_lines.specs.Printed.{comment_line, is_comment, is_code, is_description, HeaderOk, PrintsBack}
use Rattle.journal_lines.specs.HeaderForm.{starts_so}
use Rattle.journal_lines.proofs.CutLemmas.{before_mark, no_mark, trim_start_behind, trim_start_same, trim_end_same}
use Rattle.journal_lines.proofs.CutLemmas.{trim_inside, trim_same, front_whole, no_comment, comment_behind, all_weaker}
use Rattle.journal_lines.proofs.CutLemmas.{all_joined, all_take, all_drop, all_trim_start, all_trim_end, first_trimmed}
use Rattle.journal_lines.proofs.CutLemmas.{trim_start_first, trim_end_trimmed, trim_trimmed, before_none}
use Rattle.journal_lines.proofs.DateLemmas.{dates_print, dates_bound, date_reads}
pub use Rattle.money_core.proofs.AmountPrint.{past}

-- comment lines
spaced_trimmed : (text : List ℕ) → is_trimmed text ≡ true → trim (spaced_text text) ≡ text
spaced_trimmed [] t = trim_same [] refl
spaced_trimmed (b ∷ bs) t =
    ap (λ (xs : List ℕ). trim (32 ∷ xs)) (sym (append-nil (b ∷ bs))) ∙ trim_inside (32 ∷ []) (b ∷ bs) [] refl refl t

pub comment_reads : (text : List ℕ) → is_comment text ≡ true → comment_of (comment_line text) ≡ Some text
unfolding comment_line
comment_reads text h =
    let outer = and_parts (is_trimmed text && list_all is_clean text) _ h in
    let inner = and_parts (is_trimmed text) _ outer.0 in
    comment_behind indent (spaced_text text) refl ∙ ap (λ (t : List ℕ). Some t) (spaced_trimmed text inner.0)

-- a comment line is indented, and `;` is its first byte after the blanks
pub comment_shows : (text : List ℕ) → trim_start (comment_line text) ≡ 59 ∷ spaced_text text
unfolding comment_line
comment_shows text =
    trim_start_behind indent (59 ∷ spaced_text text) refl ∙ trim_start_same (59 ∷ spaced_text text) refl

pub record DescriptionOk (status : Option Status) (code : Option (List ℕ)) (text : List ℕ) : Type 0 where
  pub trimmed : is_trimmed text ≡ true
  pub no_semicolon : has_no 59 text ≡ true
  pub clean : list_all is_clean text ≡ true
  pub short : nat_le (length text) description_limit ≡ true
  pub so : starts_so status code (slice_index text 0) ≡ true

pub description_parts : (status : Option Status) (code : Option (List ℕ)) (text : List ℕ)
    → is_description status code text ≡ true → DescriptionOk status code text
description_parts status code text h =
    let a = and_parts (is_trimmed text && has_no 59 text && list_all is_clean text
    && nat_le (length text) description_limit) _ h in
    let b = and_parts (is_trimmed text && has_no 59 text && list_all is_clean text) _ a.0 in
    let c = and_parts (is_trimmed text && has_no 59 text) _ b.0 in
    let d = and_parts (is_trimmed text) _ c.0 in
    record { trimmed = d.0; no_semicolon = d.1; clean = c.1; short = b.1; so = a.1 }

pub record CodeOk (code : List ℕ) : Type 0 where
  pub open_end : has_no 41 code ≡ true
  pub no_semicolon : has_no 59 code ≡ true
  pub clean : list_all is_clean code ≡ true
  pub short : nat_le (length code) code_limit ≡ true

pub code_parts : (code : List ℕ) → is_code (Some code) ≡ true → CodeOk code
code_parts code h =
    let a = and_parts (has_no 41 code && has_no 59 code && list_all is_clean code) _ h in
    let b = and_parts (has_no 41 code && has_no 59 code) _ a.0 in
    let c = and_parts (has_no 41 code) _ b.0 in
    record { open_end = c.0; no_semicolon = c.1; clean = b.1; short = a.1 }

-- the description after its space
description_back : (text : List ℕ) → is_trimmed text ≡ true → trim_start (spaced_text text) ≡ text
description_back [] t = trim_start_same [] refl
description_back (b ∷ bs) t =
    let parts = and_parts (not (is_blank b)) _ t in
    trim_start_behind (32 ∷ []) (b ∷ bs) refl ∙ trim_start_same (b ∷ bs) (not-true _ parts.0)

description_end : (text : List ℕ) → is_trimmed text ≡ true → trim_end text ≡ text
description_end text t =
    let parts = and_parts (not (is_blank (slice_index text 0))) _ t in trim_end_same text (not-true _ parts.1)

-- the code and the description
coded_back : (status : Option Status) (code : Option (List ℕ)) (text : List ℕ) → is_code code ≡ true
    → DescriptionOk status code text
    → code_at (trim_start (header_code code ++ spaced_text text)) ≡ Some (record { code = code; rest = text })
unfolding code_at
coded_back status None text k d = rw (description_back text d.trimmed, no_bracket status d.so) refl
  where
    no_bracket : (s : Option Status) → starts_so s None (slice_index text 0) ≡ true → (slice_index text 0 == 40) ≡ false
    no_bracket None h = let parts =
        and_parts (not (slice_index text 0 == 42) && not (slice_index text 0 == 33)) _ h in not-true _ parts.1
    no_bracket (Some Pending) h = not-true _ h
    no_bracket (Some Cleared) h = not-true _ h
coded_back status (Some code) text k d =
    let c = code_parts code k in
    let behind : trim_start (header_code (Some code) ++ spaced_text text) ≡ 40 ∷ (code ++ 41 ∷ spaced_text text) =
    trim_start_behind (32 ∷ []) (40 ∷ ((code ++ 41 ∷ []) ++ spaced_text text)) refl
    ∙ (trim_start_same (40 ∷ ((code ++ 41 ∷ []) ++ spaced_text text)) refl
    ∙ ap (λ (xs : List ℕ). 40 ∷ xs) (append_assoc code (41 ∷ []) (spaced_text text))) in
    let inside : length code < length (code ++ 41 ∷ spaced_text text) =
    rw (length-append code (41 ∷ spaced_text text)) (omega arith) in
    rw (
      behind,
      before_mark (λ b. b == 41) code (spaced_text text) 41 c.open_end refl,
      lt-ltb (length code) (length (code ++ 41 ∷ spaced_text text)) inside,
      take-append_seam code (41 ∷ spaced_text text),
      drop-append-add code (41 ∷ spaced_text text) 1,
      description_back text d.trimmed,
    ) refl

-- the status in front of them
status_back : (status : Option Status) (code : Option (List ℕ)) (text : List ℕ) → DescriptionOk status code text
    → (status_at (trim_start (header_status status ++ (header_code code ++ spaced_text text))) ≡ status)
    × (behind_status (trim_start (header_status status ++ (header_code code ++ spaced_text text)))
    ≡ trim_start (header_code code ++ spaced_text text))
unfolding status_at behind_status
status_back (Some Pending) code text d =
    let rest = header_code code ++ spaced_text text in
    let e : trim_start (32 ∷ 33 ∷ rest) ≡ 33 ∷ rest =
    trim_start_behind (32 ∷ []) (33 ∷ rest) refl ∙ trim_start_same (33 ∷ rest) refl in
    (rw e refl, rw e refl)
status_back (Some Cleared) code text d =
    let rest = header_code code ++ spaced_text text in
    let e : trim_start (32 ∷ 42 ∷ rest) ≡ 42 ∷ rest =
    trim_start_behind (32 ∷ []) (42 ∷ rest) refl ∙ trim_start_same (42 ∷ rest) refl in
    (rw e refl, rw e refl)
status_back None (Some code) text d =
    let rest = (code ++ 41 ∷ []) ++ spaced_text text in
    let e : trim_start (32 ∷ 40 ∷ rest) ≡ 40 ∷ rest =
    trim_start_behind (32 ∷ []) (40 ∷ rest) refl ∙ trim_start_same (40 ∷ rest) refl in
    (rw e refl, rw e refl)
status_back None None text d =
    let e = description_back text d.trimmed in
    let outer = and_parts (not (slice_index text 0 == 42) && not (slice_index text 0 == 33)) _ d.so in
    let inner = and_parts (not (slice_index text 0 == 42)) _ outer.0 in
    (rw (e, not-true _ inner.0, not-true _ inner.1) refl, rw (e, not-true _ inner.0, not-true _ inner.1) refl)

-- what follows the date is nothing, or begins with a space
abbrev pub StartsBlank : List ℕ → Type 0
StartsBlank [] = Unit {0}
StartsBlank (b ∷ bs) = is_blank b ≡ true

starts_blank : (status : Option Status) (code : Option (List ℕ)) (text : List ℕ)
    → StartsBlank (header_status status ++ (header_code code ++ spaced_text text))
starts_blank (Some Pending) code text = refl
starts_blank (Some Cleared) code text = refl
starts_blank None (Some code) text = refl
starts_blank None None [] = tt
starts_blank None None (b ∷ bs) = refl

pub date_ends : (date rest : List ℕ) → list_all (λ b. not (is_blank b)) date ≡ true → StartsBlank rest
    → position_or_len is_blank (date ++ rest) ≡ length date
date_ends date [] h s = rw append-nil (no_mark is_blank date h)
date_ends date (b ∷ rest) h s = before_mark is_blank date rest b h s

date_no_blank : (b : ℕ) → (is_ascii_digit b || (b == 45)) ≡ true → not (is_blank b) ≡ true
date_no_blank b h = grind (arith, common_steps)

date_no_semicolon : (b : ℕ) → (is_ascii_digit b || (b == 45)) ≡ true → not (b == 59) ≡ true
date_no_semicolon b h = grind (arith, common_steps)

-- no `;` stands in a header line
header_no_semicolon : (day : Day) (status : Option Status) (code : Option (List ℕ)) (text : List ℕ)
    → IsDateText day (printed_date day) → is_code code ≡ true → DescriptionOk status code text
    → has_no 59 (header_line day status code text) ≡ true
unfolding header_line
header_no_semicolon day status code text date k d =
    all_joined (λ b. not (b == 59)) (printed_date day) (header_status status ++ (header_code code ++ spaced_text text))
    (all_weaker (λ b. is_ascii_digit b || (b == 45)) (λ b. not (b == 59)) (printed_date day) date_no_semicolon
    date.form)
    (all_joined (λ b. not (b == 59)) (header_status status) (header_code code ++ spaced_text text) (of_status status)
    (all_joined (λ b. not (b == 59)) (header_code code) (spaced_text text) (of_code code k)
    (of_text text d.no_semicolon)))
  where
    of_status : (s : Option Status) → has_no 59 (header_status s) ≡ true
    of_status None = refl
    of_status (Some Pending) = refl
    of_status (Some Cleared) = refl

    of_code : (c : Option (List ℕ)) → is_code c ≡ true → has_no 59 (header_code c) ≡ true
    of_code None h = refl
    of_code (Some c) h = all_joined (λ b. not (b == 59)) c (41 ∷ []) (code_parts c h).no_semicolon refl

    of_text : (t : List ℕ) → has_no 59 t ≡ true → has_no 59 (spaced_text t) ≡ true
    of_text [] h = refl
    of_text (b ∷ bs) h = h

-- what a header line is cut into
header_cut : (day : Day) (status : Option Status) (code : Option (List ℕ)) (text : List ℕ)
    → IsDateText day (printed_date day) → is_code code ≡ true → DescriptionOk status code text
    → cut_header (header_line day status code text)
    ≡ record {
      date = printed_date day;
      status = status;
      coded = Some (record { code = code; rest = text });
      comment = None;
    }
unfolding cut_header header_line first_word behind_date
header_cut day status code text date k d =
    let rest = header_status status ++ (header_code code ++ spaced_text text) in
    let none = header_no_semicolon day status code text date k d in
    let front : front_of (printed_date day ++ rest) ≡ printed_date day ++ rest =
    front_whole (printed_date day ++ rest) none in
    let comment : comment_of (printed_date day ++ rest) ≡ None = no_comment (printed_date day ++ rest) none in
    let ends = date_ends (printed_date day) rest
    (all_weaker (λ b. is_ascii_digit b || (b == 45)) (λ b. not (is_blank b)) (printed_date day) date_no_blank
    date.form) (starts_blank status code text) in
    let status_is = status_back status code text d in
    rw (
      front,
      comment,
      ends,
      take-append_seam (printed_date day) rest,
      drop_at (printed_date day) rest (length (printed_date day)) refl,
      status_is.0,
      status_is.1,
      coded_back status code text k d,
    ) refl

-- A printed header line reads as its parts.
pub header_reads : (day : Day) (status : Option Status) (code : Option (List ℕ)) (text : List ℕ)
    → HeaderOk day status code text
    → header_of (header_line day status code text)
    ≡ Ok (record { day = day; status = status; code = code; description = text; comment = None })
unfolding judged_header
header_reads day status code text h =
    let date = dates_print day h.number in
    let d = description_parts status code text h.description_ok in
    let text_end = description_end text d.trimmed in
    rw (
      header_cut day status code text date h.code_ok d,
      short_code code h.code_ok,
      text_end,
      le-ltb 500 (length text) (omega (arith, leb-true (length text) 500 d.short)),
      date_reads (printed_date day) day date.reads,
    ) (rw text_end refl)
  where
    short_code : (c : Option (List ℕ)) → is_code c ≡ true → nat_lt 100 (length_of c) ≡ false
    short_code None k = refl
    short_code (Some c) k = le-ltb 100 (length c) (omega (arith, leb-true (length c) 100 (code_parts c k).short))

date_clean : (b : ℕ) → (is_ascii_digit b || (b == 45)) ≡ true → is_clean b ≡ true
date_clean b h = grind (arith, common_steps)

-- no control character stands in a header line
pub header_clean : (day : Day) (status : Option Status) (code : Option (List ℕ)) (text : List ℕ)
    → IsDateText day (printed_date day) → is_code code ≡ true → DescriptionOk status code text
    → list_all is_clean (header_line day status code text) ≡ true
unfolding header_line
header_clean day status code text date k d =
    all_joined is_clean (printed_date day) (header_status status ++ (header_code code ++ spaced_text text))
    (all_weaker (λ b. is_ascii_digit b || (b == 45)) is_clean (printed_date day) date_clean date.form)
    (all_joined is_clean (header_status status) (header_code code ++ spaced_text text) (of_status status)
    (all_joined is_clean (header_code code) (spaced_text text) (of_code code k) (of_text text d.clean)))
  where
    of_status : (s : Option Status) → list_all is_clean (header_status s) ≡ true
    of_status None = refl
    of_status (Some Pending) = refl
    of_status (Some Cleared) = refl

    of_code : (c : Option (List ℕ)) → is_code c ≡ true → list_all is_clean (header_code c) ≡ true
    of_code None h = refl
    of_code (Some c) h = all_joined is_clean c (41 ∷ []) (code_parts c h).clean refl

    of_text : (t : List ℕ) → list_all is_clean t ≡ true → list_all is_clean (spaced_text t) ≡ true
    of_text [] h = refl
    of_text (b ∷ bs) h = h

-- how long a header line is
pub header_short : (day : Day) (status : Option Status) (code : Option (List ℕ)) (text : List ℕ)
    → IsDateText day (printed_date day) → is_code code ≡ true → DescriptionOk status code text
    → length (header_line day status code text) ≤ 1000
unfolding header_line
header_short day status code text date k d =
    omega (
      arith,
      date.ten,
      of_status status,
      of_code code k,
      of_text text,
      leb-true (length text) 500 d.short,
      length-append (printed_date day) (header_status status ++ (header_code code ++ spaced_text text)),
      length-append (header_status status) (header_code code ++ spaced_text text),
      length-append (header_code code) (spaced_text text),
    )
  where
    of_status : (s : Option Status) → length (header_status s) ≤ 2
    of_status None = omega arith
    of_status (Some Pending) = omega arith
    of_status (Some Cleared) = omega arith

    of_code : (c : Option (List ℕ)) → is_code c ≡ true → length (header_code c) ≤ 103
    of_code None h = omega arith
    of_code (Some c) h = omega (arith, length-append c (41 ∷ []), leb-true (length c) 100 (code_parts c h).short)

    of_text : (t : List ℕ) → length (spaced_text t) ≤ length t + 1
    of_text [] = omega arith
    of_text (b ∷ bs) = omega arith

-- the result of a test
pub cond_cases : {A : Type 0} (b : Bool) (x y z : A) → cond b x y ≡ z → ((b ≡ true) × (x ≡ z)) ⊎ ((b ≡ false) × (y ≡ z))
cond_cases true x y z h = inl (refl, h)
cond_cases false x y z h = inr (refl, h)

-- A comment that is read is well formed.
pub read_comment : (line text : List ℕ) → list_all is_clean line ≡ true → comment_of line ≡ Some text
    → nat_lt 900 (length text) ≡ false → is_comment text ≡ true
unfolding comment_of
read_comment line text clean e short =
    elim (cond_cases (nat_lt (position_or_len (λ b. b == 59) line) (length line))
    (Some (trim (after_first (λ b. b == 59) line))) None (Some text) e) [
      | inl found ↦
          let q : trim (after_first (λ b. b == 59) line) ≡ text = (let found_is = found.1 in cc) in
          let ends : is_trimmed text ≡ true = ap is_trimmed (sym q) ∙ trim_trimmed (after_first (λ b. b == 59) line) in
          let good : list_all is_clean text ≡ true =
          ap (λ (t : List ℕ). list_all is_clean t) (sym q) ∙ all_trim_end is_clean _
          (all_trim_start is_clean _ (all_drop is_clean (position_or_len (λ b. b == 59) line + 1) line clean)) in
          and_from _ _ (and_from _ _ ends good) (le-leb (length text) 900 (ltb-false 900 (length text) short))
      | inr none ↦ absurd (let none_is = none.1 in cc)
    ]

all_front : (p : ℕ → Bool) (line : List ℕ) → list_all p line ≡ true → list_all p (front_of line) ≡ true
unfolding front_of
all_front p line h = all_take p (position_or_len (λ b. b == 59) line) line h

pub front_none : (line : List ℕ) → has_no 59 (front_of line) ≡ true
unfolding front_of
front_none line = before_none (λ b. b == 59) line

pub all_behind_date : (p : ℕ → Bool) (front : List ℕ) → list_all p front ≡ true → list_all p (behind_date front) ≡ true
unfolding behind_date
all_behind_date p front h =
    all_trim_start p (drop (position_or_len is_blank front) front) (all_drop p (position_or_len is_blank front) front h)

pub date_first : (front : List ℕ) → is_blank (slice_index (behind_date front) 0) ≡ false
unfolding behind_date
date_first front = trim_start_first (drop (position_or_len is_blank front) front)

pub all_behind_status : (p : ℕ → Bool) (text : List ℕ) → list_all p text ≡ true → list_all p (behind_status text) ≡ true
unfolding behind_status
all_behind_status p text h = elim (cases_Bool ((slice_index text 0 == 42) || (slice_index text 0 == 33))) [
  | inl marked ↦ rw marked (all_trim_start p (drop 1 text) (all_drop p 1 text h))
  | inr bare ↦ rw bare h
]

pub status_first : (text : List ℕ) → is_blank (slice_index text 0) ≡ false
    → is_blank (slice_index (behind_status text) 0) ≡ false
unfolding behind_status
status_first text h = elim (cases_Bool ((slice_index text 0 == 42) || (slice_index text 0 == 33))) [
  | inl marked ↦ rw marked (trim_start_first (drop 1 text))
  | inr bare ↦ rw bare h
]

-- where no status was read, none stands at the front of what follows
pub no_status : (text : List ℕ) → status_at text ≡ None
    → ((slice_index (behind_status text) 0 == 42) ≡ false) × ((slice_index (behind_status text) 0 == 33) ≡ false)
unfolding status_at behind_status
no_status text h =
    elim (cases_Bool (slice_index text 0 == 42)) [
      | inl star ↦ absurd (let e : (Some Cleared) ≡ None = rw star at h in cc)
      | inr other ↦ elim (cases_Bool (slice_index text 0 == 33)) [
        | inl shout ↦ absurd (let e : (Some Pending) ≡ None = rw (other, shout) at h in cc)
        | inr bare ↦ (rw (other, bare) other, rw (other, bare) bare)
      ]
    ]

-- what is known of the code and what follows it
pub record CodedOk (text : List ℕ) (coded : Coded) : Type 0 where
  pub first : is_blank (slice_index coded.rest 0) ≡ false
  pub inside : (p : ℕ → Bool) → list_all p text ≡ true → list_all p coded.rest ≡ true
  pub within : (p : ℕ → Bool) (code : List ℕ) → coded.code ≡ Some code → list_all p text ≡ true → list_all p code ≡ true
  pub open_end : (code : List ℕ) → coded.code ≡ Some code → has_no 41 code ≡ true
  pub bare : coded.code ≡ None → (coded.rest ≡ text) × ((slice_index text 0 == 40) ≡ false)

pub coded_ok : (text : List ℕ) (coded : Coded) → is_blank (slice_index text 0) ≡ false → code_at text ≡ Some coded
    → CodedOk text coded
unfolding code_at
coded_ok text coded solid h =
    elim (cond_cases (slice_index text 0 == 40) _ _ _ h) [
      | inl bracket ↦ elim (cond_cases (nat_lt (position_or_len (λ b. b == 41) (drop 1 text)) (length (drop 1 text)))
          (Some (with_code text)) None (Some coded) bracket.1) [
            | inl closed ↦ (let same : with_code text ≡ coded =
                (let closed_is = closed.1 in cc) in subst (λ (c : Coded). CodedOk text c) same (of_code text))
            | inr none ↦ absurd (let none_is = none.1 in cc)
          ]
      | inr bare ↦ (let same : record { code = None; rest = text } ≡ coded =
          (let bare_is = bare.1 in cc) in subst (λ (c : Coded). CodedOk text c) same (record {
            first = solid;
            inside = λ p k. k;
            within = λ p code e k. absurd cc;
            open_end = λ code e. absurd cc;
            bare = λ e. (refl, bare.0);
          }))
    ]
  where
    with_code : List ℕ → Coded
    with_code text = record {
      code = Some (before_first (λ b. b == 41) (drop 1 text));
      rest = trim_start (after_first (λ b. b == 41) (drop 1 text));
    }

    of_code : (text : List ℕ) → CodedOk text (with_code text)
    of_code text = record {
      first = trim_start_first (after_first (λ b. b == 41) (drop 1 text));
      inside = λ p k. all_trim_start p _
          (all_drop p (position_or_len (λ b. b == 41) (drop 1 text) + 1) (drop 1 text) (all_drop p 1 text k));
      within = λ p code e k. (let same : before_first (λ b. b == 41) (drop 1 text) ≡ code =
          cc in ap (λ (t : List ℕ). list_all p t) (sym same) ∙ all_take p (position_or_len (λ b. b == 41) (drop 1 text))
          (drop 1 text) (all_drop p 1 text k));
      open_end = λ code e. (let same : before_first (λ b. b == 41) (drop 1 text) ≡ code =
          cc in ap (λ (t : List ℕ). has_no 41 t) (sym same) ∙ before_none (λ b. b == 41) (drop 1 text));
      bare = λ e. absurd cc;
    }

-- the code and the description are well formed
code_read : (text : List ℕ) (coded : Coded) → CodedOk text coded → has_no 59 text ≡ true → list_all is_clean text ≡ true
    → nat_lt 100 (length_of coded.code) ≡ false → is_code coded.code ≡ true
code_read text coded k none clean short = at coded.code refl
  where
    at : (o : Option (List ℕ)) → coded.code ≡ o → is_code o ≡ true
    at None e = refl
    at (Some code) e =
        let size =
        ltb-false 100 (length code) (ap (λ (o : Option (List ℕ)). nat_lt 100 (length_of o)) (sym e) ∙ short) in
        and_from _ _ (and_from _ _ (and_from _ _ (k.open_end code e) (k.within (λ b. not (b == 59)) code e none))
        (k.within is_clean code e clean)) (le-leb (length code) 100 size)

pub so_read : (status : Option Status) (dated : List ℕ) (coded : Coded) → CodedOk (behind_status dated) coded
    → status_at dated ≡ status → starts_so status coded.code (slice_index (trim_end coded.rest) 0) ≡ true
so_read status dated coded k e = at coded.code refl status e
  where
    not_one : (n : ℕ) → (0 == n) ≡ false → coded.rest ≡ behind_status dated
        → (slice_index (behind_status dated) 0 == n) ≡ false → not (slice_index (trim_end coded.rest) 0 == n) ≡ true
    not_one n z same h = first_trimmed (λ b. not (b == n)) coded.rest
        (not_from_false _ (ap (λ (t : List ℕ). slice_index t 0 == n) same ∙ h)) (not_from_false _ z)

    at : (o : Option (List ℕ)) → coded.code ≡ o → (s : Option Status) → status_at dated ≡ s
        → starts_so s o (slice_index (trim_end coded.rest) 0) ≡ true
    at (Some code) q None u = refl
    at (Some code) q (Some Pending) u = refl
    at (Some code) q (Some Cleared) u = refl
    at None q None u =
        let b = k.bare q in
        let s = no_status dated u in
        and_from _ _ (and_from _ _ (not_one 42 refl b.0 s.0) (not_one 33 refl b.0 s.1)) (not_one 40 refl b.0 b.1)
    at None q (Some Pending) u = let b = k.bare q in not_one 40 refl b.0 b.1
    at None q (Some Cleared) u = let b = k.bare q in not_one 40 refl b.0 b.1

-- The parts of a header line that is read are well formed.
pub read_header : (line : List ℕ) (h : HeaderParts) → list_all is_clean line ≡ true → header_of line ≡ Ok h
    → PrintsBack h
unfolding judged_header cut_header
read_header line h clean e =
    let front = front_of line in
    let dated = behind_date front in
    let text = behind_status dated in
    let one = past (is_coded_long (code_at text) || nat_lt 900 (length_of (comment_of line))) _ _ h e in
    let limits = or_parts (is_coded_long (code_at text)) _ one.0 in
    at_date (date_of (first_word front)) refl (code_at text) refl limits.0 limits.1 one.1
  where
    at_coded : (day : Day) → IsDayNumber day → (o : Option Coded)
        → code_at (behind_status (behind_date (front_of line))) ≡ o → is_coded_long o ≡ false
        → nat_lt 900 (length_of (comment_of line)) ≡ false
        → closed_header (cut_header line) day o ≡ Ok h → PrintsBack h
    at_coded day number None q long short r = absurd cc
    at_coded day number (Some coded) q long short r =
        let dated = behind_date (front_of line) in
        let text = behind_status dated in
        let k = coded_ok text coded (status_first dated (date_first (front_of line))) q in
        let none = all_behind_status (λ b. not (b == 59)) dated
        (all_behind_date (λ b. not (b == 59)) (front_of line) (front_none line)) in
        let good = all_behind_status is_clean dated
        (all_behind_date is_clean (front_of line) (all_front is_clean line clean)) in
        let sizes = or_parts (nat_lt 100 (length_of coded.code)) _ long in
        let size = ltb-false 500 (length (trim_end coded.rest)) sizes.1 in
        let same : record {
          day = day;
          status = status_at dated;
          code = coded.code;
          description = trim_end coded.rest;
          comment = comment_of line;
        } ≡ h = cc in
        subst (λ (p : HeaderParts). PrintsBack p) same (record {
          parts = record {
            number = number;
            code_ok = code_read text coded k none good sizes.0;
            description_ok = and_from _ _ (and_from _ _
                (and_from _ _
                (and_from _ _ (trim_end_trimmed coded.rest k.first)
                (all_trim_end (λ b. not (b == 59)) coded.rest (k.inside (λ b. not (b == 59)) none)))
                (all_trim_end is_clean coded.rest (k.inside is_clean good)))
                (le-leb (length (trim_end coded.rest)) 500 size)) (so_read (status_at dated) dated coded k refl);
          };
          comment = λ t is. read_comment line t clean is
              (ap (λ (o : Option (List ℕ)). nat_lt 900 (length_of o)) (sym is) ∙ short);
        })

    at_date : (o : Option Day) → date_of (first_word (front_of line)) ≡ o → (c : Option Coded)
        → code_at (behind_status (behind_date (front_of line))) ≡ c → is_coded_long c ≡ false
        → nat_lt 900 (length_of (comment_of line)) ≡ false
        → dated_header (cut_header line) o ≡ Ok h → PrintsBack h
    at_date None q c r long short f = absurd cc
    at_date (Some day) q c r long short f =
        at_coded day (dates_bound (first_word (front_of line)) day q) c r long short
        (subst (λ (x : Option Coded). closed_header (cut_header line) day x ≡ Ok h) r f)
