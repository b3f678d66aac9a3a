-- Which fault a header line has: that of its text from left to right.
use Rattle.std.proofs.Common.{◌≡◌, ◌≤◌, ◌<◌, ◌↔◌, ◌++◌, ◌==◌, ◌⊎◌, ℕ, List, [], ◌∷◌, Bool, true, false, not, ◌||◌}
use Rattle.std.proofs.Common.{length, take, drop, slice_index, arith, refl, ap, ◌∙◌, append_assoc, sym, subst, Option}
use Rattle.std.proofs.Common.{Some, None, Result, Ok, Err, IfOk, IfErr, inl, inr, nat_lt}
use Rattle.std.proofs.lemmas.Grind.{common_steps}
use Rattle.std.proofs.lemmas.Bool.{cases_Bool, and_parts, and_from, or_parts, not-true, not_from_false, lt-ltb, le-ltb}
use Rattle.std.proofs.lemmas.Bool.{ltb-true, ltb-false, eqb-true, or_left, or_right}
use Rattle.std.specs.List.{list_all, position_or_len}
use Rattle.std.proofs.lemmas.List.{drop_at}
use Rattle.std.proofs.Math.Seq.{take-append_seam}
use Rattle.money_core.specs.declared.day.Day.{Day}
use Rattle.money_core.specs.Cause.{cause_number}
use Rattle.money_core.specs.declared.cause.Cause.{Cause}
use Rattle.money_core.specs.declared.cause.Cause.TheVariants as cause
use Rattle.journal_lines.specs.declared.header.Status.{Status}
use Rattle.journal_lines.specs.declared.header.Header as read
use Rattle.journal_lines.specs.Blank.{is_blank, first_word, first_solid, trim_start, trim_end}
use Rattle.journal_lines.specs.Comment.{has_no, front_of, comment_of}
use Rattle.journal_lines.specs.DateReading.{date_of}
use Rattle.journal_lines.specs.Header.{HeaderParts, length_of, status_at, behind_status}
use Rattle.journal_lines.specs.HeaderReading.{Coded, closed_code, code_at, HeaderCut, behind_date, cut_header}
use Rattle.journal_lines.specs.HeaderReading.{is_coded_long, is_cut_long, judged_header, dated_header, closed_header}
use Rattle.journal_lines.specs.HeaderReading.{header_of}
use Rattle.journal_lines.specs.HeaderView.{parts_of, read_parts}
use Rattle.journal_lines.specs.HeaderForm.{status_text, code_text, is_closed, ReadsHeader}
use Rattle.journal_lines.specs.HeaderFaults.{IsCut, IsCoded, IsLongText, HasLongPart, HasNoDate, HasOpenCode}
use Rattle.journal_lines.proofs.CutLemmas.{no_mark, trim_start_behind, trim_start_same, trim_inside, all_weaker}
use Rattle.journal_lines.proofs.CutLemmas.{all_joined, all_take, first_trimmed, trim_end_trimmed, before_none}
use Rattle.journal_lines.proofs.DateLemmas.{reads_date, date_reads}
use Rattle.journal_lines.proofs.HeaderLemmas.{StartsBlank, date_ends, CodedOk, coded_ok, all_behind_date}
use Rattle.journal_lines.proofs.HeaderLemmas.{all_behind_status, front_none, date_first, status_first, no_status}
use Rattle.journal_lines.proofs.HeaderFormLemmas.{form_reads, StatusForm, CodeForm, RemarkForm, status_reads}
use Rattle.journal_lines.proofs.HeaderFormLemmas.{remark_reads, code_reads, in_row, remark_form, status_form, code_form}
use Rattle.journal_lines.proofs.HeaderFormLemmas.{date_split, nothing_apart, end_blanks, split_end, blanks_front}
use Rattle.journal_lines.proofs.HeaderFormLemmas.{blanks_end, blank_no_semicolon, status_no_semicolon}
use Rattle.journal_lines.proofs.HeaderFormLemmas.{nothing_has_no_status, blanks_joined}

-- ---- each line is cut so

nothing_has_no_text : behind_status [] ≡ []
unfolding behind_status
nothing_has_no_text = refl

nothing_has_no_gap : (text : List ℕ) → text ≡ []
    → (f : (status : List ℕ) × ((gap : List ℕ) × ((rest : List ℕ) × (text ≡ status ++ (gap ++ rest))))) → f.1.0 ≡ []
nothing_has_no_gap text e ([], ([], (rest, w))) = refl
nothing_has_no_gap text e ([], (b ∷ bs, (rest, w))) = absurd (omega (arith, ap length (sym e ∙ w)))
nothing_has_no_gap text e (a ∷ more, (gap, (rest, w))) = absurd (omega (arith, ap length (sym e ∙ w)))

append_assoc_six : (a b c d e f : List ℕ) → (a ++ (b ++ (c ++ (d ++ e)))) ++ f ≡ a ++ (b ++ (c ++ (d ++ (e ++ f))))
append_assoc_six a b c d e f = simp append_assoc

word_solid : (front : List ℕ) → list_all (λ b. not (is_blank b)) (first_word front) ≡ true
unfolding first_word
word_solid front = before_none is_blank front

word_within : (p : ℕ → Bool) (front : List ℕ) → list_all p front ≡ true → list_all p (first_word front) ≡ true
unfolding first_word
word_within p front h = all_take p (position_or_len is_blank front) front h

pub cut_of : (line : List ℕ) → IsCut line (first_word (front_of line)) (behind_status (behind_date (front_of line)))
    (comment_of line)
cut_of line = record {
  status = status_at dated;
  gap = gap;
  status_gap = status.gap;
  remark = remark.remark;
  written = remark.written ∙ (ap (λ (xs : List ℕ). xs ++ remark.remark)
      (date_split front ∙ ap (λ (xs : List ℕ). first_word front ++ (gap ++ xs)) status.written)
      ∙ append_assoc_six (first_word front) gap (status_text (status_at dated)) status.gap (behind_status dated)
      remark.remark);
  solid = word_solid front;
  blanks = blanks_joined gap status.gap (blanks_front behind) status.blanks;
  apart = λ no_gap. at (nothing_apart front no_gap);
  starts = status_first dated (date_first front);
  begins = λ none. let s = no_status dated none in rw (s.0, s.1) refl;
  uncommented = all_joined (λ b. not (b == 59)) (first_word front) (behind_status dated)
      (word_within (λ b. not (b == 59)) front (front_none line))
      (all_behind_status (λ b. not (b == 59)) dated (all_behind_date (λ b. not (b == 59)) front (front_none line)));
  commented = remark.is;
}
  where
    front : List ℕ
    front = front_of line

    dated : List ℕ
    dated = behind_date front

    behind : List ℕ
    behind = drop (position_or_len is_blank front) front

    gap : List ℕ
    gap = take (first_solid behind) behind

    status : StatusForm dated (status_at dated) (behind_status dated)
    status = status_form dated

    remark : RemarkForm line front (comment_of line)
    remark = remark_form line

    at : dated ≡ [] → (status_at dated ≡ None) × ((status.gap ≡ []) × (behind_status dated ≡ []))
    at e = (
      ap status_at e ∙ nothing_has_no_status,
      (
        nothing_has_no_gap dated e
            (status_text (status_at dated), (status.gap, (behind_status dated, status.written))),
        ap behind_status e ∙ nothing_has_no_text,
      ),
    )

-- ---- and in no other way

-- the parts of a cut, as `cut_header` has them
pub cut_alone : (line word text : List ℕ) (comment : Option (List ℕ)) → (c : IsCut line word text comment)
    → cut_header line ≡ record { date = word; status = c.status; coded = code_at text; comment = comment }
unfolding cut_header first_word behind_date
cut_alone line word text comment c =
    let gaps = in_row c.gap c.status_gap c.blanks in
    let own = has_parts word text c.uncommented in
    let rest = status_text c.status ++ (c.status_gap ++ text) in
    let front = word ++ (c.gap ++ rest) in
    let no : has_no 59 front ≡ true =
    all_joined (λ b. not (b == 59)) word (c.gap ++ rest) own.0
    (all_joined (λ b. not (b == 59)) c.gap rest
    (all_weaker is_blank (λ b. not (b == 59)) c.gap blank_no_semicolon gaps.0)
    (all_joined (λ b. not (b == 59)) (status_text c.status) (c.status_gap ++ text) (status_no_semicolon c.status)
    (all_joined (λ b. not (b == 59)) c.status_gap text
    (all_weaker is_blank (λ b. not (b == 59)) c.status_gap blank_no_semicolon gaps.1) own.1))) in
    let whole : line ≡ front ++ c.remark =
    c.written ∙ sym (append_assoc_six word c.gap (status_text c.status) c.status_gap text c.remark) in
    let remark = remark_reads front c.remark comment no c.commented in
    let front_is : front_of line ≡ front = ap front_of whole ∙ remark.0 in
    let comment_is : comment_of line ≡ comment = ap comment_of whole ∙ remark.1 in
    let ends = date_ends word (c.gap ++ rest) c.solid (gap_starts c.gap c.status c.status_gap text gaps.0 c.apart) in
    let start = trim_start_same text c.starts in
    let status = status_reads c.status c.status_gap text gaps.1
    (λ none. let s = or_parts (slice_index text 0 == 42) _ (c.begins none) in (
      ap (λ (xs : List ℕ). slice_index xs 0 == 42) start ∙ s.0,
      ap (λ (xs : List ℕ). slice_index xs 0 == 33) start ∙ s.1,
    )) in
    rw (
      front_is,
      comment_is,
      ends,
      take-append_seam word (c.gap ++ rest),
      drop_at word (c.gap ++ rest) (length word) refl,
      trim_start_behind c.gap rest gaps.0,
      status.0,
      status.1,
      start,
    )
    refl
  where
    has_parts : (a b : List ℕ) → has_no 59 (a ++ b) ≡ true → (has_no 59 a ≡ true) × (has_no 59 b ≡ true)
    has_parts [] b h = (refl, h)
    has_parts (x ∷ a) b h = let parts = and_parts (not (x == 59)) _ h in let rest =
        has_parts a b parts.1 in (and_from (not (x == 59)) _ parts.0 rest.0, rest.1)

    gap_starts : (gap : List ℕ) (status : Option Status) (status_gap text : List ℕ) → list_all is_blank gap ≡ true
        → (gap ≡ [] → (status ≡ None) × ((status_gap ≡ []) × (text ≡ [])))
        → StartsBlank (gap ++ (status_text status ++ (status_gap ++ text)))
    gap_starts (x ∷ gap) status a text g none = (and_parts (is_blank x) _ g).0
    gap_starts [] status a text g none =
        let are = none refl in
        subst (λ (s : Option Status). StartsBlank (status_text s ++ (a ++ text))) (sym are.0)
        (subst (λ (b : List ℕ). StartsBlank (b ++ text)) (sym are.1.0) (subst StartsBlank (sym are.1.1) tt))

-- ---- codes and descriptions

-- a code that is closed, and the description after it
pub coded_of : (text : List ℕ) (coded : Coded) → is_blank (slice_index text 0) ≡ false → has_no 59 text ≡ true
    → code_at text ≡ Some coded → IsCoded text coded.code (trim_end coded.rest)
coded_of text coded solid none h = record {
  gap = form.gap;
  end_gap = end_blanks coded.rest;
  written = form.written ∙ ap (λ (xs : List ℕ). code_text coded.code ++ (form.gap ++ xs)) (split_end coded.rest);
  blanks = blanks_joined form.gap (end_blanks coded.rest) form.blanks (blanks_end coded.rest);
  closed = closed coded.code refl;
  trimmed = trim_end_trimmed coded.rest k.first;
  begins = λ bare. let b = k.bare bare in
      not-true _ (first_trimmed (λ b. not (b == 40)) coded.rest
      (not_from_false _ (ap (λ (t : List ℕ). slice_index t 0 == 40) b.0 ∙ b.1)) refl);
}
  where
    form : CodeForm text coded
    form = code_form text coded h

    k : CodedOk text coded
    k = coded_ok text coded solid h

    closed : (o : Option (List ℕ)) → coded.code ≡ o → is_closed o ≡ true
    closed None e = refl
    closed (Some code) e = and_from _ _ (k.open_end code e) (k.within (λ b. not (b == 59)) code e none)

pub coded_alone : (text : List ℕ) (code : Option (List ℕ)) (description : List ℕ)
    → is_blank (slice_index text 0) ≡ false → (c : IsCoded text code description)
    → (code_at text ≡ Some (record { code = code; rest = trim_start (description ++ c.end_gap) }))
    × (trim_end (trim_start (description ++ c.end_gap)) ≡ description)
coded_alone text code description solid c =
    let gaps = in_row c.gap c.end_gap c.blanks in (
      ap code_at (sym (trim_start_same text solid) ∙ ap trim_start c.written) ∙ code_reads code c.gap description
          c.end_gap c.closed gaps.0 gaps.1 c.trimmed c.begins,
      trim_inside [] description c.end_gap refl gaps.1 c.trimmed,
    )

-- a code that is not closed
pub open_alone : (rest : List ℕ) → has_no 41 rest ≡ true → code_at (40 ∷ rest) ≡ None
unfolding code_at
open_alone rest h = rw (no_mark (λ b. b == 41) rest h, le-ltb (length rest) (length rest) (omega arith)) refl

pub open_of : (text : List ℕ) → code_at text ≡ None → (rest : List ℕ) × ((text ≡ 40 ∷ rest) × (has_no 41 rest ≡ true))
unfolding code_at
open_of [] h = absurd cc
open_of (x ∷ xs) h = elim (cases_Bool (x == 40)) [
  | inl bracket ↦ (let none : closed_code xs ≡ None =
      rw bracket at h in (xs, (ap (λ (b : ℕ). b ∷ xs) (eqb-true x 40 bracket), no_end none)))
  | inr bare ↦ absurd (let some : Some (record { code = None; rest = x ∷ xs }) ≡ None = rw bare at h in cc)
]
  where
    take_all : (n : ℕ) (ys : List ℕ) → length ys ≤ n → take n ys ≡ ys
    take_all n ys k = grind (arith, common_steps)

    no_end : closed_code xs ≡ None → has_no 41 xs ≡ true
    no_end none = elim (cases_Bool (nat_lt (position_or_len (λ b. b == 41) xs) (length xs))) [
      | inl found ↦ absurd (let some = rw found at none in cc)
      | inr lacks ↦ subst (λ (ys : List ℕ). has_no 41 ys ≡ true)
          (take_all (position_or_len (λ b. b == 41) xs) xs (ltb-false _ _ lacks)) (before_none (λ b. b == 41) xs)
    ]

-- ---- which fault

or_cases : (a b : Bool) → (a || b) ≡ true → (a ≡ true) ⊎ (b ≡ true)
or_cases true b h = inl refl
or_cases false b h = inr h

-- a part with too many bytes
pub long_of : (line : List ℕ) → is_cut_long (cut_header line) ≡ true → HasLongPart line
unfolding cut_header
long_of line h = elim (or_cases (is_coded_long (code_at text)) _ h) [
  | inl coded ↦ at (code_at text) refl coded
  | inr comment ↦ record {
    word = first_word (front_of line);
    text = text;
    comment = comment_of line;
    cut = cut_of line;
    long = inr (ltb-true 900 (length_of (comment_of line)) comment);
  }
]
  where
    text : List ℕ
    text = behind_status (behind_date (front_of line))

    none : has_no 59 text ≡ true
    none = all_behind_status (λ b. not (b == 59)) (behind_date (front_of line))
        (all_behind_date (λ b. not (b == 59)) (front_of line) (front_none line))

    sizes : (coded : Coded) → (nat_lt 100 (length_of coded.code) || nat_lt 500 (length (trim_end coded.rest))) ≡ true
        → (100 < length_of coded.code) ⊎ (500 < length (trim_end coded.rest))
    sizes coded k = elim (or_cases (nat_lt 100 (length_of coded.code)) _ k) [
      | inl code ↦ inl (ltb-true 100 (length_of coded.code) code)
      | inr description ↦ inr (ltb-true 500 (length (trim_end coded.rest)) description)
    ]

    at : (o : Option Coded) → code_at text ≡ o → is_coded_long o ≡ true → HasLongPart line
    at None q k = absurd cc
    at (Some coded) q k = record {
      word = first_word (front_of line);
      text = text;
      comment = comment_of line;
      cut = cut_of line;
      long = inl (coded.code, (trim_end coded.rest, (coded_of text coded (cut_of line).starts none q, sizes coded k)));
    }

pub long_alone : (line : List ℕ) → HasLongPart line → is_cut_long (cut_header line) ≡ true
long_alone line h = ap is_cut_long (cut_alone line h.word h.text h.comment h.cut) ∙ at h.long
  where
    at : IsLongText h.text ⊎ (900 < length_of h.comment)
        → (is_coded_long (code_at h.text) || nat_lt 900 (length_of h.comment)) ≡ true
    at (inr comment) = or_right (is_coded_long (code_at h.text)) _ (lt-ltb 900 (length_of h.comment) comment)
    at (inl (code, (description, (coded, big)))) =
        let k = coded_alone h.text code description h.cut.starts coded in
        or_left (is_coded_long (code_at h.text)) _
        (ap is_coded_long k.0 ∙ sizes code description (trim_end (trim_start (description ++ coded.end_gap))) k.1
        big)
      where
        sizes : (code : Option (List ℕ)) (description rest : List ℕ) → rest ≡ description
            → (100 < length_of code) ⊎ (500 < length description)
            → (nat_lt 100 (length_of code) || nat_lt 500 (length rest)) ≡ true
        sizes code description rest e (inl big) =
            or_left (nat_lt 100 (length_of code)) _ (lt-ltb 100 (length_of code) big)
        sizes code description rest e (inr big) =
            or_right (nat_lt 100 (length_of code)) _
            (ap (λ (xs : List ℕ). nat_lt 500 (length xs)) e ∙ lt-ltb 500 (length description) big)

-- no part with too many bytes
pub short_is : (line : List ℕ) → ¬ (HasLongPart line) → is_cut_long (cut_header line) ≡ false
short_is line short = elim (cases_Bool (is_cut_long (cut_header line)))
    [ inl long ↦ absurd (short (long_of line long)) | inr fits ↦ fits ]

pub judged_short : (line : List ℕ) → ¬ (HasLongPart line)
    → header_of line ≡ dated_header (cut_header line) (date_of (cut_header line).date)
unfolding judged_header
judged_short line short = rw (short_is line short) refl

-- the faults of what is short
dated_err : (cut : HeaderCut) (o : Option Day) (c : Cause) → dated_header cut o ≡ Err c
    → ((o ≡ None) × (c ≡ cause.Date)) ⊎ ((day : Day) × ((o ≡ Some day) × ((cut.coded ≡ None) × (c ≡ cause.Header))))
dated_err cut None c e = inl (refl, cc)
dated_err cut (Some day) c e = inr (day, (refl, at cut.coded refl e))
  where
    at : (o : Option Coded) → cut.coded ≡ o → closed_header cut day o ≡ Err c → (cut.coded ≡ None) × (c ≡ cause.Header)
    at None q f = (q, cc)
    at (Some coded) q f = absurd cc

-- each fault is that of its text
pub fault_of : (line : List ℕ) (c : Cause) → header_of line ≡ Err c
    → ((c ≡ cause.TooLong) × HasLongPart line)
    ⊎ (((c ≡ cause.Date) × HasNoDate line) ⊎ ((c ≡ cause.Header) × HasOpenCode line))
unfolding judged_header
fault_of line c e = elim (cases_Bool (is_cut_long (cut_header line))) [
  | inl long ↦ (let failed : Err cause.TooLong ≡ Err c = rw long at e in inl (cc, long_of line long))
  | inr fits ↦ (let rest : dated_header (cut_header line) (date_of (cut_header line).date) ≡ Err c = rw fits at e in
      let short : ¬ (HasLongPart line) = λ long. (let is = long_alone line long in cc) in
      inr (dated short (dated_err (cut_header line) (date_of (cut_header line).date) c rest)))
]
  where
    word : List ℕ
    word = first_word (front_of line)

    text : List ℕ
    text = behind_status (behind_date (front_of line))

    cut : cut_header line ≡ record {
      date = word;
      status = (cut_of line).status;
      coded = code_at text;
      comment = comment_of line;
    }
    cut = cut_alone line word text (comment_of line) (cut_of line)

    date_is : date_of word ≡ date_of (cut_header line).date
    date_is = ap (λ (x : HeaderCut). date_of x.date) (sym cut)

    coded_is : code_at text ≡ (cut_header line).coded
    coded_is = ap (λ (x : HeaderCut). x.coded) (sym cut)

    none_some : (o : Option Day) (day : Day) → o ≡ None → o ≡ Some day → ⊥
    none_some o day p q = cc

    dated : ¬ (HasLongPart line) → ((date_of (cut_header line).date ≡ None) × (c ≡ cause.Date))
        ⊎ ((day : Day)
        × ((date_of (cut_header line).date ≡ Some day) × (((cut_header line).coded ≡ None) × (c ≡ cause.Header))))
        → ((c ≡ cause.Date) × HasNoDate line) ⊎ ((c ≡ cause.Header) × HasOpenCode line)
    dated short (inl undated) = inl (
      undated.1,
      record {
        word = word;
        text = text;
        comment = comment_of line;
        cut = cut_of line;
        short = short;
        undated = λ day is. none_some (date_of word) day (date_is ∙ undated.0) (date_reads word day is);
      },
    )
    dated short (inr (day, (is, (none, same)))) =
        let opened = open_of text (coded_is ∙ none) in
        inr (
          same,
          record {
            word = word;
            rest = opened.0;
            comment = comment_of line;
            day = day;
            cut = subst (λ (xs : List ℕ). IsCut line word xs (comment_of line)) opened.1.0 (cut_of line);
            short = short;
            dated = reads_date word day (date_is ∙ is);
            unclosed = opened.1.1;
          },
        )

-- and each such text has its fault
pub long_fault : (line : List ℕ) → HasLongPart line → header_of line ≡ Err cause.TooLong
unfolding judged_header
long_fault line h = rw (long_alone line h) refl

pub date_fault : (line : List ℕ) → HasNoDate line → header_of line ≡ Err cause.Date
date_fault line h = judged_short line h.short ∙ ap (dated_header (cut_header line))
    (ap (λ (x : HeaderCut). date_of x.date) (cut_alone line h.word h.text h.comment h.cut) ∙ at (date_of h.word) refl)
  where
    at : (o : Option Day) → date_of h.word ≡ o → date_of h.word ≡ None
    at None q = q
    at (Some day) q = absurd (h.undated day (reads_date h.word day q))

pub code_fault : (line : List ℕ) → HasOpenCode line → header_of line ≡ Err cause.Header
code_fault line h =
    let cut = cut_alone line h.word (40 ∷ h.rest) h.comment h.cut in
    judged_short line h.short
    ∙ (ap (dated_header (cut_header line))
    (ap (λ (x : HeaderCut). date_of x.date) cut ∙ date_reads h.word h.day h.dated)
    ∙ ap (closed_header (cut_header line) h.day) (ap (λ (x : HeaderCut). x.coded) cut ∙ open_alone h.rest h.unclosed))

-- ---- the same of what was read

same_err : (r : Result read.Header Cause) (x : Result HeaderParts Cause) (c : Cause) → read_parts r ≡ x
    → (r ≡ Err c) ↔ (x ≡ Err c)
same_err (Ok h) x c e = (λ p. absurd cc, λ p. absurd cc)
same_err (Err d) x c e = (
  λ p. (let same : d ≡ c = cc in sym e ∙ ap (λ (d : Cause). Err d) same),
  λ p.
      (let same : d ≡ c = cc in ap (λ (d : Cause). Err d) same),
)

pub long_iff : (line : List ℕ) (r : Result read.Header Cause) → read_parts r ≡ header_of line
    → (r ≡ Err cause.TooLong) ↔ HasLongPart line
long_iff line r e = let same = same_err r (header_of line) cause.TooLong e in
    (λ p. at (fault_of line cause.TooLong (same.0 p)), λ h. same.1 (long_fault line h))
  where
    at : ((cause.TooLong ≡ cause.TooLong) × HasLongPart line)
        ⊎ (((cause.TooLong ≡ cause.Date) × HasNoDate line) ⊎ ((cause.TooLong ≡ cause.Header) × HasOpenCode line))
        → HasLongPart line
    at (inl k) = k.1
    at (inr (inl k)) = absurd cc
    at (inr (inr k)) = absurd cc

pub date_iff : (line : List ℕ) (r : Result read.Header Cause) → read_parts r ≡ header_of line
    → (r ≡ Err cause.Date) ↔ HasNoDate line
date_iff line r e = let same = same_err r (header_of line) cause.Date e in
    (λ p. at (fault_of line cause.Date (same.0 p)), λ h. same.1 (date_fault line h))
  where
    at : ((cause.Date ≡ cause.TooLong) × HasLongPart line)
        ⊎ (((cause.Date ≡ cause.Date) × HasNoDate line) ⊎ ((cause.Date ≡ cause.Header) × HasOpenCode line))
        → HasNoDate line
    at (inl k) = absurd cc
    at (inr (inl k)) = k.1
    at (inr (inr k)) = absurd cc

pub code_iff : (line : List ℕ) (r : Result read.Header Cause) → read_parts r ≡ header_of line
    → (r ≡ Err cause.Header) ↔ HasOpenCode line
code_iff line r e = let same = same_err r (header_of line) cause.Header e in
    (λ p. at (fault_of line cause.Header (same.0 p)), λ h. same.1 (code_fault line h))
  where
    at : ((cause.Header ≡ cause.TooLong) × HasLongPart line)
        ⊎ (((cause.Header ≡ cause.Date) × HasNoDate line) ⊎ ((cause.Header ≡ cause.Header) × HasOpenCode line))
        → HasOpenCode line
    at (inl k) = absurd cc
    at (inr (inl k)) = absurd cc
    at (inr (inr k)) = k.1

pub one_cause : (line : List ℕ) (r : Result read.Header Cause) → read_parts r ≡ header_of line
    → IfErr r (λ c. (c ≡ cause.TooLong) ⊎ ((c ≡ cause.Date) ⊎ (c ≡ cause.Header)))
one_cause line (Ok h) e = tt
one_cause line (Err c) e = at (fault_of line c (sym e))
  where
    at : ((c ≡ cause.TooLong) × HasLongPart line)
        ⊎ (((c ≡ cause.Date) × HasNoDate line) ⊎ ((c ≡ cause.Header) × HasOpenCode line))
        → (c ≡ cause.TooLong) ⊎ ((c ≡ cause.Date) ⊎ (c ≡ cause.Header))
    at (inl k) = inl k.0
    at (inr (inl k)) = inr (inl k.0)
    at (inr (inr k)) = inr (inr k.0)

-- what is promised of an answer makes it that of the function
pub header_answer : (line : List ℕ) (r : Result read.Header Cause) → IfOk r (λ h. ReadsHeader line (parts_of h))
    → ((r ≡ Err cause.TooLong) ↔ HasLongPart line) → ((r ≡ Err cause.Date) ↔ HasNoDate line)
    → ((r ≡ Err cause.Header) ↔ HasOpenCode line)
    → IfErr r (λ c. (c ≡ cause.TooLong) ⊎ ((c ≡ cause.Date) ⊎ (c ≡ cause.Header))) → read_parts r ≡ header_of line
header_answer line (Ok h) found long undated unclosed causes = sym (form_reads line (parts_of h) found)
header_answer line (Err c) found long undated unclosed (inl is) =
    ap (λ (x : Cause). Err x) is ∙ sym (long_fault line (long.0 (ap (λ (x : Cause). Err x) is)))
header_answer line (Err c) found long undated unclosed (inr (inl is)) =
    ap (λ (x : Cause). Err x) is ∙ sym (date_fault line (undated.0 (ap (λ (x : Cause). Err x) is)))
header_answer line (Err c) found long undated unclosed (inr (inr is)) =
    ap (λ (x : Cause). Err x) is ∙ sym (code_fault line (unclosed.0 (ap (λ (x : Cause). Err x) is)))

-- a header's fault is a limit exactly where a part has too many bytes, for the order of faults above
pub header_fault : (line : List ℕ) (c : Cause) → header_of line ≡ Err c
    → (cause_number c == 2) ≡ is_cut_long (cut_header line)
header_fault line c e = at (fault_of line c e)
  where
    at : ((c ≡ cause.TooLong) × HasLongPart line)
        ⊎ (((c ≡ cause.Date) × HasNoDate line) ⊎ ((c ≡ cause.Header) × HasOpenCode line))
        → (cause_number c == 2) ≡ is_cut_long (cut_header line)
    at (inl k) = ap (λ (x : Cause). cause_number x == 2) k.0 ∙ sym (long_alone line k.1)
    at (inr (inl k)) = ap (λ (x : Cause). cause_number x == 2) k.0 ∙ sym (short_is line k.1.short)
    at (inr (inr k)) = ap (λ (x : Cause). cause_number x == 2) k.0 ∙ sym (short_is line k.1.short)
