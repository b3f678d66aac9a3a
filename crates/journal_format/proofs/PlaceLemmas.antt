-- A step that is refused has the first fault of its line in its place.
use Rattle.std.proofs.Common.{◌≡◌, ◌≤◌, ◌<◌, ◌++◌, ℕ, List, [], ◌∷◌, Bool, true, false, not, ◌&&◌, ◌||◌, length, arith}
use Rattle.std.proofs.Common.{refl, ap, ◌∙◌, sym, subst, Option, Some, None, Result, Ok, Err, inl, inr, ◌⊎◌, nat_lt}
use Rattle.std.proofs.Common.{nat_le, length-append}
use Rattle.std.specs.Prelude.{⊤, cond}
use Rattle.std.proofs.lemmas.Bool.{cases_Bool, and_from, lt-ltb, ltb-true, le-leb, leb-true, or_parts}
use Rattle.money_core.specs.declared.style.Style.{Style}
use Rattle.money_core.specs.declared.unit.Unit.{Unit as Commodity}
use Rattle.money_core.specs.declared.cause.Cause.{Cause}
use Rattle.money_core.specs.declared.cause.Cause.TheVariants as cause
use Rattle.journal_lines.specs.declared.line_kind.LineKind.{LineKind}
use Rattle.journal_lines.specs.declared.line_kind.LineKind.TheVariants as kind
use Rattle.journal_lines.specs.LineKind.{kind_of, is_block_end, is_remark}
use Rattle.journal_lines.specs.Comment.{front_of, comment_of}
use Rattle.journal_lines.specs.Header.{HeaderParts, length_of}
use Rattle.journal_lines.specs.HeaderReading.{header_of, is_cut_long, cut_header}
use Rattle.journal_lines.specs.HeaderFaults.{HasLongPart, HasNoDate, HasOpenCode}
use Rattle.journal_lines.proofs.HeaderFaultLemmas.{long_of, long_alone, date_fault, code_fault}
use Rattle.journal_lines.proofs.HeaderLemmas.{cond_cases}
use Rattle.journal_format.specs.Line.{is_text, is_line}
use Rattle.journal_format.specs.declared.posting.Posting.{Posting}
use Rattle.journal_format.specs.declared.txn.Txn.{Txn}
use Rattle.journal_format.specs.declared.txn.Located.{Located}
use Rattle.journal_format.specs.Posting.{posting_of}
use Rattle.journal_format.specs.Mark.{mark_of}
use Rattle.journal_format.specs.DirectiveForm.{behind_word}
use Rattle.journal_format.specs.Directive.{commodity_of, format_fault}
use Rattle.journal_format.specs.CanonicalText.{body_text}
use Rattle.journal_format.specs.Machine.{Context, State, opened, list_of, with_mark, noted, remarked, with_remark}
use Rattle.journal_format.specs.Machine.{with_posting, entry_line, begun, entry_context, directed, unfaulty, behind}
use Rattle.journal_format.specs.Machine.{by_kind}
use Rattle.journal_format.specs.Machine.{block_line, passes_line_limit, within, line_step}
use Rattle.journal_format.specs.declared.state.Context.TheVariants as at
use Rattle.journal_format.specs.Pieces.{IsEntry}
use Rattle.journal_format.specs.LineFaults.{IsFirst, posting_part_faults, IsSecondMark, PassesBody, directive_faults}
use Rattle.journal_format.specs.LineFaults.{format_faults}
use Rattle.journal_format.specs.Place.{Open, indented_faults, kind_faults, HasCause}
use Rattle.journal_format.specs.Place.Open.{nothing, entry, directive, skipped, block}
use Rattle.journal_format.proofs.LeadLemmas.{header_begins, header_short}
use Rattle.journal_format.proofs.KeepLemmas.{HoldsAt, header_entry, entry_push}
use Rattle.journal_format.proofs.FirstLemmas.{AreNone, first_behind_none, first_in_front, refused, one_err, not_both}
use Rattle.journal_format.proofs.CauseLemmas.{or_cases, frame_first_fault, header_told, directive_told, format_told}
use Rattle.journal_format.proofs.PostingFaultLemmas.{posting_told, posting_none}

too_long : {A : Type 0} (c : Cause) → refused {A = A} cause.TooLong ≡ Err c → c ≡ cause.TooLong
too_long {A = A} c e = sym (one_err (refused {A = A} cause.TooLong) cause.TooLong c refl e)

same_err : {A : Type 0} (d c : Cause) → refused {A = A} d ≡ Err c → d ≡ c
same_err {A = A} d c e = one_err (refused {A = A} d) d c refl e

-- the body of an entry
body_told : (styles : List Style) (done : List Located) (n : ℕ) (t : Txn) (c : Cause)
    → within styles (Ok (record { done = done; context = at.Entry n t })) ≡ Err c
    → (1_000_000 < length (body_text styles t)) × (c ≡ cause.TooLong)
body_told styles done n t c e =
    elim (cond_cases (nat_lt 1_000_000 (length (body_text styles t))) (refused {A = State} cause.TooLong) _ (Err c) e) [
      | inl great ↦ (ltb-true 1_000_000 (length (body_text styles t)) great.0, too_long {A = State} c great.1)
      | inr small ↦ absurd (not_both _ _ c refl small.1)
    ]

right_line : (line : List ℕ) → length line ≤ 1000 → is_text line ≡ true → is_line line ≡ true
right_line line l t = and_from (nat_le (length line) 1000) _ (le-leb (length line) 1000 l) t

-- a header
header_first : (styles : List Style) → (done : List Located) (n : ℕ) (line : List ℕ) (c : Cause)
    → kind_of line ≡ kind.Header → is_line line ≡ true → is_cut_long (cut_header line) ≡ false
    → (r : Result HeaderParts Cause) → header_of line ≡ r
    → within styles (behind done (entry_context n (begun r))) ≡ Err c
    → IsFirst ((cause.Date, HasNoDate line) ∷ (cause.Header, HasOpenCode line)
    ∷ (cause.TooLong, PassesBody styles [] line) ∷ []) c
header_first styles done n line c k right short (Err d) q f =
    let same = same_err {A = State} d c f in
    first_in_front ((cause.Date, HasNoDate line) ∷ (cause.Header, HasOpenCode line) ∷ [])
    ((cause.TooLong, PassesBody styles [] line) ∷ []) c
    (header_told line c (λ long. (let two = sym short ∙ long_alone line long in absurd cc))
    (q ∙ ap (λ (x : Cause). Err x) same))
header_first styles done n line c k right short (Ok h) q f =
    let b = header_begins h h.comment (λ text is. header_short line h text right q is) in
    let great = body_told styles done n b.to c
    (ap (λ (x : Result Txn Cause). within styles (behind done (entry_context n x))) (sym b.gives) ∙ f) in
    inr (
      λ undated. not_both (header_of line) h cause.Date q (date_fault line undated),
      inr (
        λ opened. not_both (header_of line) h cause.Header q (code_fault line opened),
        inl ((b.to, header_entry (λ m. 1_000_000 < m) styles line b.to k (ap begun q ∙ b.gives) great.0), great.1),
      ),
    )

-- a line of that kind, outside a block
kind_told : (styles : List Style) → (s : State) (n : ℕ) (line : List ℕ) (c : Cause) (place : Open) (k : LineKind)
    → kind_of line ≡ k
    → (k ≡ kind.Indented → cond (nat_lt 1000 (length line) || passes_line_limit s line kind.Indented)
    (refused {A = State} cause.TooLong)
    (cond (not (is_text line)) (Err cause.Utf8) (within styles (by_kind styles s n line kind.Indented))) ≡ Err c
    → IsFirst (indented_faults styles place line (is_remark line)) c)
    → cond (nat_lt 1000 (length line) || passes_line_limit s line k) (refused {A = State} cause.TooLong)
    (cond (not (is_text line)) (Err cause.Utf8) (within styles (by_kind styles s n line k))) ≡ Err c
    → IsFirst (kind_faults styles (length (list_of s)) place line k) c
kind_told styles s n line c place kind.Indented q indented e = indented refl e
kind_told styles s n line c place kind.Blank q indented e =
    frame_first_fault styles line [] [] false (Ok (record { done = list_of s; context = at.Outside })) c
    (λ o. absurd cc) (λ o. tt) (λ o l t f. absurd
    (not_both (Ok (record { done = list_of s; context = at.Outside }))
    (record { done = list_of s; context = at.Outside }) c refl f)) e
kind_told styles s n line c place kind.Comment q indented e =
    frame_first_fault styles line [] [] false (Ok (record { done = list_of s; context = at.Outside })) c
    (λ o. absurd cc) (λ o. tt) (λ o l t f. absurd
    (not_both (Ok (record { done = list_of s; context = at.Outside }))
    (record { done = list_of s; context = at.Outside }) c refl f)) e
kind_told styles s n line c place kind.Block q indented e =
    frame_first_fault styles line [] [] false (Ok (record { done = list_of s; context = at.Block })) c (λ o. absurd cc)
    (λ o. tt) (λ o l t f. absurd
    (not_both (Ok (record { done = list_of s; context = at.Block }))
    (record { done = list_of s; context = at.Block }) c refl f)) e
kind_told styles s n line c place kind.Skipped q indented e =
    frame_first_fault styles line [] [] false (Ok (record { done = list_of s; context = at.Skipping })) c
    (λ o. absurd cc) (λ o. tt) (λ o l t f. absurd
    (not_both (Ok (record { done = list_of s; context = at.Skipping }))
    (record { done = list_of s; context = at.Skipping }) c refl f)) e
kind_told styles s n line c place kind.Unknown q indented e =
    frame_first_fault styles line [] ((cause.Directive, ⊤) ∷ []) false (Err cause.Directive) c (λ o. absurd cc)
    (λ o. tt) (λ o l t f. inl (tt, sym (same_err {A = State} cause.Directive c f))) e
kind_told styles s n line c place kind.Commodity q indented e =
    frame_first_fault styles line [] (directive_faults styles (behind_word (front_of line))) false
    (by_kind styles s n line kind.Commodity) c (λ o. absurd cc) (λ o. tt)
    (λ o l t f. named (commodity_of styles line) refl f) e
  where
    named : (r : Result Commodity Cause) → commodity_of styles line ≡ r
        → within styles (behind (list_of s) (directed r)) ≡ Err c
        → IsFirst (directive_faults styles (behind_word (front_of line))) c
    named (Ok unit) p f = absurd (not_both (Ok (record { done = list_of s; context = at.Commodities unit }))
        (record { done = list_of s; context = at.Commodities unit }) c refl f)
    named (Err d) p f = directive_told styles (behind_word (front_of line)) c
        (p ∙ ap (λ (x : Cause). Err x) (same_err {A = State} d c f))
kind_told styles s n line c place kind.Header q indented e =
    frame_first_fault styles line
    ((cause.TooLong, 5000 ≤ length (list_of s)) ∷ (cause.TooLong, HasLongPart line) ∷ [])
    ((cause.Date, HasNoDate line) ∷ (cause.Header, HasOpenCode line) ∷ (cause.TooLong, PassesBody styles [] line) ∷ [])
    (nat_le 5000 (length (list_of s)) || is_cut_long (cut_header line)) (by_kind styles s n line kind.Header) c passed
    none more e
  where
    passed : (nat_le 5000 (length (list_of s)) || is_cut_long (cut_header line)) ≡ true
        → IsFirst ((cause.TooLong, 5000 ≤ length (list_of s)) ∷ (cause.TooLong, HasLongPart line) ∷ []) cause.TooLong
    passed o = elim (or_cases (nat_le 5000 (length (list_of s))) _ o) [
      | inl many ↦ inl (leb-true 5000 (length (list_of s)) many, refl)
      | inr long ↦ inr (
        λ m. (let two = sym long.0 ∙ le-leb 5000 (length (list_of s)) m in absurd cc),
        inl (long_of line long.1, refl),
      )
    ]

    none : (nat_le 5000 (length (list_of s)) || is_cut_long (cut_header line)) ≡ false
        → AreNone ((cause.TooLong, 5000 ≤ length (list_of s)) ∷ (cause.TooLong, HasLongPart line) ∷ [])
    none o =
        let sides = or_parts (nat_le 5000 (length (list_of s))) _ o in (
          λ m. (let two = sym sides.0 ∙ le-leb 5000 (length (list_of s)) m in absurd cc),
          (λ h. (let two = sym sides.1 ∙ long_alone line h in absurd cc), tt),
        )

    more : (nat_le 5000 (length (list_of s)) || is_cut_long (cut_header line)) ≡ false → length line ≤ 1000
        → is_text line ≡ true → within styles (by_kind styles s n line kind.Header) ≡ Err c
        → IsFirst ((cause.Date, HasNoDate line) ∷ (cause.Header, HasOpenCode line)
        ∷ (cause.TooLong, PassesBody styles [] line) ∷ []) c
    more o l t f =
        let sides = or_parts (nat_le 5000 (length (list_of s))) _ o in
        let rest : within styles (behind (list_of s) (entry_context n (begun (header_of line)))) ≡ Err c = rw sides.0 at
        f in
        header_first styles (list_of s) n line c q (right_line line l t) sides.1 (header_of line) refl rest

-- a comment line of an entry
remark_first : (styles : List Style)
    → (done : List Located) (m : ℕ) (part : List (List ℕ)) (t : Txn) (line : List ℕ) (c : Cause) → IsEntry styles part t
    → kind_of line ≡ kind.Indented → is_remark line ≡ true
    → nat_lt 900 (length_of (comment_of line)) ≡ false → (r : Result Txn Cause) → entry_line styles t line ≡ r
    → within styles (behind done (entry_context m r)) ≡ Err c
    → IsFirst ((cause.Marks, IsSecondMark t line) ∷ (cause.TooLong, PassesBody styles part line) ∷ []) c
unfolding entry_line
remark_first styles done m part t line c h k sign short (Ok u) q f =
    let great = body_told styles done m u c f in
    inr (
      λ second. not_second second,
      inl ((u, entry_push (λ m. 1_000_000 < m) styles part t u line h k q great.0), great.1),
    )
  where
    reads : with_remark t (comment_of line) ≡ Ok u
    reads = rw sign at q

    not_second : ¬ (IsSecondMark t line)
    not_second w =
        let one : with_remark t (Some w.text) ≡ Ok u = ap (with_remark t) (sym w.reads) ∙ reads in
        let fits : nat_lt 900 (length w.text) ≡ false =
        ap (λ (o : Option (List ℕ)). nat_lt 900 (length_of o)) (sym w.reads) ∙ short in
        let two : remarked t t.postings w.text ≡ Ok u = rw fits at one in
        let three : noted t w.text (mark_of w.text) ≡ Ok u =
        ap (λ (ps : List Posting). remarked t ps w.text) (sym w.bare) ∙ two in
        let four : with_mark t w.mark t.mark ≡ Ok u = ap (noted t w.text) (sym w.marked) ∙ three in
        held t.mark refl four
      where
        held : (o : Option (List ℕ)) → t.mark ≡ o → with_mark t w.mark o ≡ Ok u → ⊥
        held None p g = w.first p
        held (Some first) p g = absurd cc
remark_first styles done m part t line c h k sign short (Err d) q f = inl (second (comment_of line) refl (rw sign at q))
  where
    same : d ≡ c
    same = same_err {A = State} d c f

    second : (o : Option (List ℕ)) → comment_of line ≡ o → with_remark t o ≡ Err d
        → IsSecondMark t line × (c ≡ cause.Marks)
    second None p g = absurd cc
    second (Some text) p g =
        elim (cond_cases (nat_lt 900 (length text)) (refused {A = Txn} cause.TooLong) _ (Err d) g) [
          | inl long ↦ absurd (let two = sym short
              ∙ (ap (λ (o : Option (List ℕ)). nat_lt 900 (length_of o)) p ∙ long.0) in
              cc)
          | inr fits ↦ remarks t.postings refl fits.1
        ]
      where
        remarks : (ps : List Posting) → t.postings ≡ ps → remarked t ps text ≡ Err d
            → IsSecondMark t line × (c ≡ cause.Marks)
        remarks (x ∷ ps) e g = absurd cc
        remarks [] e g = notes (mark_of text) refl g
          where
            marks : (mark : List ℕ) → mark_of text ≡ Some mark → (o : Option (List ℕ)) → t.mark ≡ o
                → with_mark t mark o ≡ Err d → IsSecondMark t line × (c ≡ cause.Marks)
            marks mark w None v g = absurd cc
            marks mark w (Some first) v g = (
              record {
                text = text;
                mark = mark;
                reads = p;
                marked = w;
                first = λ none. (let two = sym v ∙ none in cc);
                bare = e;
              },
              sym same ∙ sym (same_err {A = Txn} cause.Marks d g),
            )

            notes : (o : Option (List ℕ)) → mark_of text ≡ o → noted t text o ≡ Err d
                → IsSecondMark t line × (c ≡ cause.Marks)
            notes None w g = absurd cc
            notes (Some mark) w g = marks mark w t.mark refl g

-- a posting line
posting_first : (styles : List Style)
    → (done : List Located) (m : ℕ) (part : List (List ℕ)) (t : Txn) (line : List ℕ) (c : Cause) → IsEntry styles part t
    → kind_of line ≡ kind.Indented → is_remark line ≡ false
    → nat_lt 900 (length_of (comment_of line)) ≡ false → nat_le 1000 (length t.postings) ≡ false
    → within styles (behind done (entry_context m (entry_line styles t line))) ≡ Err c
    → IsFirst (posting_part_faults styles line ++ (cause.TooLong, PassesBody styles part line) ∷ []) c
unfolding entry_line
posting_first styles done m part t line c h k other short room f = by_posting (posting_of styles line) refl
  where
    entry_is : entry_line styles t line ≡ with_posting t (posting_of styles line)
    entry_is = rw (other, room) refl

    by_posting : (r : Result Posting Cause) → posting_of styles line ≡ r
        → IsFirst (posting_part_faults styles line ++ (cause.TooLong, PassesBody styles part line) ∷ []) c
    by_posting (Ok p) q =
        let is : entry_line styles t line ≡ with_posting t (Ok p) = entry_is ∙ ap (with_posting t) q in
        let great = body_told styles done m (record t { postings = t.postings ++ p ∷ [] }) c
        (ap (λ (x : Result Txn Cause). within styles (behind done (entry_context m x))) (sym is) ∙ f) in
        first_behind_none (posting_part_faults styles line) ((cause.TooLong, PassesBody styles part line) ∷ []) c
        (posting_none styles line p q)
        (inl (
          (
            record t { postings = t.postings ++ p ∷ [] },
            entry_push (λ m. 1_000_000 < m) styles part t (record t { postings = t.postings ++ p ∷ [] }) line h k is
                great.0,
          ),
          great.1,
        ))
    by_posting (Err d) q =
        let is : entry_line styles t line ≡ with_posting t (Err d) = entry_is ∙ ap (with_posting t) q in
        let same = same_err {A = State} d c
        (ap (λ (x : Result Txn Cause). within styles (behind done (entry_context m x))) (sym is) ∙ f) in
        first_in_front (posting_part_faults styles line) ((cause.TooLong, PassesBody styles part line) ∷ []) c
        (posting_told styles line c short (q ∙ ap (λ (x : Cause). Err x) same))

-- the row of an indented line, by its context
abbrev row : List Style → List Located → Context → ℕ → List ℕ → Result State Cause
row styles done context n line =
    cond (nat_lt 1000 (length line) || passes_line_limit (record { done = done; context = context }) line kind.Indented)
    (refused {A = State} cause.TooLong)
    (cond (not (is_text line)) (Err cause.Utf8)
    (within styles (by_kind styles (record { done = done; context = context }) n line kind.Indented)))

outside_told : (styles : List Style) (done : List Located) (n : ℕ) (line : List ℕ) (c : Cause)
    → row styles done at.Outside n line ≡ Err c → IsFirst (indented_faults styles nothing line (is_remark line)) c
outside_told styles done n line c e =
    frame_first_fault styles line [] ((cause.StrayLine, is_remark line ≡ false) ∷ []) false
    (by_kind styles (record { done = done; context = at.Outside }) n line kind.Indented) c (λ o. absurd cc)
    (λ o. tt)
    (λ o l t f. stray (is_remark line) refl f) e
  where
    stray : (b : Bool) → is_remark line ≡ b
        → within styles (behind done (cond b (Ok at.Outside) (Err cause.StrayLine))) ≡ Err c
        → IsFirst ((cause.StrayLine, is_remark line ≡ false) ∷ []) c
    stray true q f = absurd (not_both (Ok (record { done = done; context = at.Outside }))
        (record { done = done; context = at.Outside }) c refl f)
    stray false q f = inl (q, sym (same_err {A = State} cause.StrayLine c f))

skipping_told : (styles : List Style) (done : List Located) (n : ℕ) (line : List ℕ) (c : Cause)
    → row styles done at.Skipping n line ≡ Err c → IsFirst (indented_faults styles skipped line (is_remark line)) c
skipping_told styles done n line c e =
    frame_first_fault styles line [] [] false (Ok (record { done = done; context = at.Skipping })) c (λ o. absurd cc)
    (λ o. tt) (λ o l t f. absurd (not_both (Ok (record { done = done; context = at.Skipping }))
    (record { done = done; context = at.Skipping }) c refl f)) e

below_told : (styles : List Style) (done : List Located) (unit : Commodity) (n : ℕ) (line : List ℕ) (c : Cause)
    → row styles done (at.Commodities unit) n line ≡ Err c
    → IsFirst (indented_faults styles (directive unit) line (is_remark line)) c
below_told styles done unit n line c e =
    frame_first_fault styles line [] (format_faults styles unit line) false
    (by_kind styles (record { done = done; context = at.Commodities unit }) n line kind.Indented) c (λ o. absurd cc)
    (λ o. tt)
    (λ o l t f. format (format_fault styles unit line) refl f) e
  where
    format : (o : Option Cause) → format_fault styles unit line ≡ o
        → within styles (behind done (unfaulty unit o)) ≡ Err c → IsFirst (format_faults styles unit line) c
    format None q f = absurd (not_both (Ok (record { done = done; context = at.Commodities unit }))
        (record { done = done; context = at.Commodities unit }) c refl f)
    format (Some d) q f = format_told styles unit line c (q ∙ ap (λ (x : Cause). Some x) (same_err {A = State} d c f))

entry_told : (styles : List Style)
    → (done : List Located) (m : ℕ) (part : List (List ℕ)) (t : Txn) (n : ℕ) (line : List ℕ) (c : Cause)
    → IsEntry styles part t → kind_of line ≡ kind.Indented
    → row styles done (at.Entry m t) n line ≡ Err c
    → IsFirst (indented_faults styles (entry part t) line (is_remark line)) c
entry_told styles done m part t n line c h k e = by_sign (is_remark line) refl
  where
    long : Bool
    long = nat_lt 900 (length_of (comment_of line))

    by_sign : (b : Bool) → is_remark line ≡ b → IsFirst (indented_faults styles (entry part t) line b) c
    by_sign true q = frame_first_fault styles line ((cause.TooLong, 900 < length_of (comment_of line)) ∷ [])
        ((cause.Marks, IsSecondMark t line) ∷ (cause.TooLong, PassesBody styles part line) ∷ [])
        (nat_lt 900 (length_of (comment_of line)) || (not (is_remark line) && nat_le 1000 (length t.postings)))
        (by_kind styles (record { done = done; context = at.Entry m t }) n line kind.Indented) c
        (λ o. passed (or_cases (nat_lt 900 (length_of (comment_of line))) _ o))
        (λ o. ((
          λ l. (let two = sym (or_parts (nat_lt 900 (length_of (comment_of line))) _ o).0 ∙ lt-ltb 900
              (length_of (comment_of line)) l in absurd cc),
          tt,
        )))
        (λ o l x f. remark_first styles done m part t line c h k q
        (or_parts (nat_lt 900 (length_of (comment_of line))) _ o).0 (entry_line styles t line) refl f) e
      where
        passed : ((nat_lt 900 (length_of (comment_of line)) ≡ true)
            ⊎ ((nat_lt 900 (length_of (comment_of line)) ≡ false)
            × ((not (is_remark line) && nat_le 1000 (length t.postings)) ≡ true)))
            → IsFirst ((cause.TooLong, 900 < length_of (comment_of line)) ∷ []) cause.TooLong
        passed (inl o) = inl (ltb-true 900 (length_of (comment_of line)) o, refl)
        passed (inr o) = absurd (let two = rw q at o.1 in cc)
    by_sign false q = frame_first_fault styles line
        ((cause.TooLong, 1000 ≤ length t.postings) ∷ (cause.TooLong, 900 < length_of (comment_of line)) ∷ [])
        (posting_part_faults styles line ++ (cause.TooLong, PassesBody styles part line) ∷ [])
        (nat_lt 900 (length_of (comment_of line)) || (not (is_remark line) && nat_le 1000 (length t.postings)))
        (by_kind styles (record { done = done; context = at.Entry m t }) n line kind.Indented) c
        (λ o. passed (or_cases (nat_lt 900 (length_of (comment_of line))) _ o))
        none
        (λ o l x f. posting_first styles done m part t line c h k q
        (or_parts (nat_lt 900 (length_of (comment_of line))) _ o).0 (room o) f) e
      where
        room : (nat_lt 900 (length_of (comment_of line)) || (not (is_remark line) && nat_le 1000 (length t.postings)))
            ≡ false → nat_le 1000 (length t.postings) ≡ false
        room o = (let two = (or_parts (nat_lt 900 (length_of (comment_of line))) _ o).1 in rw q at two)

        passed : ((nat_lt 900 (length_of (comment_of line)) ≡ true)
            ⊎ ((nat_lt 900 (length_of (comment_of line)) ≡ false)
            × ((not (is_remark line) && nat_le 1000 (length t.postings)) ≡ true)))
            → IsFirst ((cause.TooLong, 1000 ≤ length t.postings) ∷ (cause.TooLong, 900 < length_of (comment_of line))
            ∷ []) cause.TooLong
        passed (inr o) = inl (leb-true 1000 (length t.postings) (let two = o.1 in rw q at two), refl)
        passed (inl o) = elim (cases_Bool (nat_le 1000 (length t.postings))) [
          | inl many ↦ inl (leb-true 1000 (length t.postings) many, refl)
          | inr few ↦ inr (
            λ x. (let two = sym few ∙ le-leb 1000 (length t.postings) x in absurd cc),
            inl (ltb-true 900 (length_of (comment_of line)) o, refl),
          )
        ]

        none : (nat_lt 900 (length_of (comment_of line)) || (not (is_remark line) && nat_le 1000 (length t.postings)))
            ≡ false
            → AreNone ((cause.TooLong, 1000 ≤ length t.postings) ∷ (cause.TooLong, 900 < length_of (comment_of line))
            ∷ [])
        none o = (
          λ x. (let two = sym (room o) ∙ le-leb 1000 (length t.postings) x in absurd cc),
          (
            λ l. (let two = sym (or_parts (nat_lt 900 (length_of (comment_of line))) _ o).0 ∙ lt-ltb 900
                (length_of (comment_of line)) l in absurd cc),
            tt,
          ),
        )

-- a step that is refused, after lines of which the state says what they are
pub step_told : (styles : List Style)
    → (before : List (List ℕ)) (done : List Located) (context : Context) (n : ℕ) (line : List ℕ) (c : Cause)
    → HoldsAt styles before done context → length (done ++ opened context) ≤ 5000
    → line_step styles (record { done = done; context = context }) n line ≡ Err c → HasCause styles before line c
unfolding line_step
step_told styles before done at.Outside n line c h few e = record {
  done = done;
  place = nothing;
  few = omega (arith, few, length-append done []);
  stands = h;
  first = subst (λ (k : ℕ). IsFirst (kind_faults styles k nothing line (kind_of line)) c)
      (omega (arith, length-append done []))
      (kind_told styles (record { done = done; context = at.Outside }) n line c nothing (kind_of line) refl
      (λ q f. outside_told styles done n line c f) e);
}
step_told styles before done at.Skipping n line c h few e = record {
  done = done;
  place = skipped;
  few = omega (arith, few, length-append done []);
  stands =
      record { last = h.last; front = h.front; part = h.part; before = h.before; holds = h.is_open; lines = h.lines };
  first = subst (λ (k : ℕ). IsFirst (kind_faults styles k skipped line (kind_of line)) c)
      (omega (arith, length-append done []))
      (kind_told styles (record { done = done; context = at.Skipping }) n line c skipped (kind_of line) refl
      (λ q f. skipping_told styles done n line c f) e);
}
step_told styles before done (at.Commodities unit) n line c h few e = record {
  done = done;
  place = directive unit;
  few = omega (arith, few, length-append done []);
  stands =
      record { last = h.last; front = h.front; part = h.part; before = h.before; holds = h.is_open; lines = h.lines };
  first = subst (λ (k : ℕ). IsFirst (kind_faults styles k (directive unit) line (kind_of line)) c)
      (omega (arith, length-append done []))
      (kind_told styles (record { done = done; context = at.Commodities unit }) n line c (directive unit) (kind_of line)
      refl (λ q f. below_told styles done unit n line c f) e);
}
step_told styles before done (at.Entry m t) n line c h few e = record {
  done = done;
  place = entry h.part t;
  few = omega (arith, few, length-append done (opened (at.Entry m t)));
  stands = record {
    last = h.last;
    front = h.front;
    part = h.part;
    before = h.before;
    holds = (refl, h.is_open.1);
    lines = h.lines;
  };
  first = subst (λ (k : ℕ). IsFirst (kind_faults styles k (entry h.part t) line (kind_of line)) c)
      (length-append done (opened (at.Entry m t)))
      (kind_told styles (record { done = done; context = at.Entry m t }) n line c (entry h.part t) (kind_of line) refl
      (λ q f. entry_told styles done m h.part t n line c h.is_open.1 q f) e);
}
step_told styles before done at.Block n line c h few e = record {
  done = done;
  place = block;
  few = omega (arith, few, length-append done []);
  stands =
      record { last = h.last; front = h.front; part = h.part; before = h.before; holds = h.is_open; lines = h.lines };
  first =
      frame_first_fault styles line [] [] false (Ok (block_line done (is_block_end line))) c (λ o. absurd cc) (λ o. tt)
      (λ o l t f. ended (is_block_end line) f) e;
}
  where
    ended : (b : Bool) → within styles (Ok (block_line done b)) ≡ Err c → IsFirst [] c
    ended true f = absurd (not_both (Ok (record { done = done; context = at.Outside }))
        (record { done = done; context = at.Outside }) c refl f)
    ended false f = absurd (not_both (Ok (record { done = done; context = at.Block }))
        (record { done = done; context = at.Block }) c refl f)
