-- A directive, and a line below it, are read exactly where they have their form.
use Rattle.std.proofs.Common.{◌≡◌, ◌≢◌, ◌≤◌, ◌<◌, ◌+◌, ◌++◌, ◌==◌, ℕ, suc, List, [], ◌∷◌, Bool, true, false, cond, not}
use Rattle.std.proofs.Common.{◌&&◌, length, take, drop, slice_index, slice_get, codes, arith, refl, ap, ◌∙◌, append-nil}
use Rattle.std.proofs.Common.{append_assoc, take-append-drop, sym, subst, Option, Some, None, Result, Ok, Err, inl, inr}
use Rattle.std.proofs.Common.{◌⊎◌, length-append}
use Rattle.std.specs.Prelude.{◌↔◌}
use Rattle.std.proofs.lemmas.Grind.{common_steps}
use Rattle.std.proofs.lemmas.Bool.{cases_Bool, cases_lt, and_parts, and_from, not-true, not_from_false, lt-ltb, le-ltb}
use Rattle.std.proofs.lemmas.Bool.{eqb-true, eq-eqb, ne_eqb}
use Rattle.std.specs.List.{list_all, slice_split, onto_first, position_or_len}
use Rattle.std.specs.Char.{is_ascii_digit}
use Rattle.std.specs.Cmp.Lexicographic.{same_text}
use Rattle.std.proofs.lemmas.List.{drop_at}
use Rattle.std.proofs.lemmas.List.Sums.{passes_at_first}
use Rattle.std.proofs.Math.Seq.{take-append_seam, drop-cons}
use Rattle.money_core.specs.declared.mark.Mark.{Mark}
use Rattle.money_core.specs.declared.mark.Mark.TheVariants.{Point, Comma}
use Rattle.money_core.specs.declared.class.Class.TheVariants.{Symbol}
use Rattle.money_core.specs.declared.style.Style.{Style}
use Rattle.money_core.specs.declared.unit.Unit.{Unit as Commodity}
use Rattle.money_core.specs.declared.cause.Cause.{Cause}
use Rattle.money_core.specs.declared.cause.Cause.TheVariants.{Directive}
use Rattle.money_core.specs.Class.{is_of_class}
use Rattle.money_core.specs.Mark.{decimal_byte, group_byte}
use Rattle.money_core.specs.Number.{is_group, is_whole, is_number, whole_part, fraction_part}
use Rattle.money_core.specs.Symbol.{WritesSymbol}
use Rattle.money_core.specs.Amount.{place_of}
use Rattle.money_core.specs.Style.{IsSample, mark_eq}
use Rattle.money_core.specs.Sampling.{style_of}
use Rattle.money_core.specs.Cutting.{symbol_in_text}
use Rattle.money_core.proofs.GrammarLemmas.{number_parts, symbol_begins, whole_symbol}
use Rattle.money_core.proofs.SampleLemmas.{style_spelled, spelled_style}
use Rattle.journal_lines.specs.Blank.{is_blank, first_word, first_solid, trim_start, trim, is_trimmed}
use Rattle.journal_lines.specs.Comment.{front_of, comment_of}
use Rattle.journal_lines.specs.LineKind.{kind_of, is_same, is_commodity_word, is_skipped_word}
use Rattle.journal_lines.specs.declared.line_kind.LineKind.{LineKind}
use Rattle.journal_lines.specs.declared.line_kind.LineKind.TheVariants as kind
use Rattle.journal_lines.proofs.CutLemmas.{trim_start_behind, trim_start_same, trim_start_first, trim_inside}
use Rattle.journal_lines.proofs.CutLemmas.{all_joined, all_weaker, first_kept}
use Rattle.journal_lines.proofs.HeaderLemmas.{StartsBlank, date_ends, cond_cases}
use Rattle.journal_lines.proofs.HeaderFormLemmas.{remark_reads, in_row, split_start, blanks_front, end_blanks}
use Rattle.journal_lines.proofs.HeaderFormLemmas.{split_end, blanks_end, remark_form, blank_no_semicolon}
use Rattle.journal_format.specs.PostingParts.{outside}
use Rattle.journal_format.specs.Directive.{shows_digit, agrees, sampled, sampled_at, symbol_at, commodity_by_symbol}
use Rattle.journal_format.specs.Directive.{commodity_named}
use Rattle.journal_format.specs.Directive.{commodity_of, format_at, sample_fault, is_format, format_fault}
use Rattle.journal_format.specs.DirectiveForm.{IsSampleOf, IsSymbolOf, HasBehind, NamesCommodity, IsBelow, behind_word}
use Rattle.journal_format.proofs.OutsideLemmas.{IsFree, number_in, passed_symbol, solid_amount, solid_symbol}
use Rattle.journal_format.proofs.OutsideLemmas.{first_amount, bytes_amount, bytes_symbol}
use Rattle.journal_format.proofs.PostingFormLemmas.{bars_blank, allows_no_comment}

-- ---- samples and symbols

marks_same : (m n : Mark) → mark_eq m n ≡ true → n ≡ m
marks_same Point Point h = refl
marks_same Comma Comma h = refl
marks_same Point Comma h = absurd cc
marks_same Comma Point h = absurd cc

same_marks : (m n : Mark) → n ≡ m → mark_eq m n ≡ true
same_marks Point n e = rw e refl
same_marks Comma n e = rw e refl

-- a sample that agrees, at the place of its symbol
sample_there : (styles : List Style) (text : List ℕ) (sample : Style) (place : ℕ) → IsSample text sample
    → place_of styles sample.symbol ≡ Some place → agrees (slice_get styles place) sample ≡ true
    → IsSampleOf styles (record { 0 = place }) text
sample_there styles text sample place s d a = at (slice_get styles place) refl a
  where
    at : (o : Option Style) → slice_get styles place ≡ o → agrees o sample ≡ true
        → IsSampleOf styles (record { 0 = place }) text
    at None e k = absurd cc
    at (Some style) e k =
        let parts = and_parts (mark_eq style.mark sample.mark) _ k in
        record {
          sample = sample;
          style = style;
          spelled = s;
          declared = d;
          its_style = e;
          mark = marks_same style.mark sample.mark parts.0;
          decimals = sym (eqb-true style.decimals sample.decimals parts.1);
        }

sample_agrees : (styles : List Style) (unit : Commodity) (text : List ℕ) → (w : IsSampleOf styles unit text)
    → agrees (slice_get styles unit.0) w.sample ≡ true
sample_agrees styles unit text w =
    rw w.its_style
    (and_from _ _ (same_marks w.style.mark w.sample.mark w.mark)
    (eq-eqb w.style.decimals w.sample.decimals (sym w.decimals)))

sample_iff : (styles : List Style) (unit : Commodity) (text : List ℕ)
    → IsSampleOf styles unit text ↔ (sampled styles (style_of text) ≡ Ok unit)
sample_iff styles unit text = (to, at (style_of text) refl)
  where
    to : IsSampleOf styles unit text → sampled styles (style_of text) ≡ Ok unit
    to w = rw (spelled_style text w.sample w.spelled, w.declared, sample_agrees styles unit text w) refl

    ok_is : (r : Result Commodity Cause) (x y : Commodity) → r ≡ Ok x → r ≡ Ok y → x ≡ y
    ok_is r x y e g = cc

    placed : (sample : Style) → IsSample text sample → (o : Option ℕ) → place_of styles sample.symbol ≡ o
        → sampled_at styles sample o ≡ Ok unit → IsSampleOf styles unit text
    placed sample s None e k = absurd cc
    placed sample s (Some place) e k = elim (cond_cases (agrees (slice_get styles place) sample) _ _ _ k) [
      | inl good ↦ subst (λ (u : Commodity). IsSampleOf styles u text) (ok_is _ _ _ refl good.1)
          (sample_there styles text sample place s e good.0)
      | inr bad ↦ absurd (let no = bad.1 in cc)
    ]

    at : (o : Option Style) → style_of text ≡ o → sampled styles o ≡ Ok unit → IsSampleOf styles unit text
    at None e k = absurd cc
    at (Some sample) e k = placed sample (style_spelled text sample e) (place_of styles sample.symbol) refl k

symbol_iff : (styles : List Style) (unit : Commodity) (text : List ℕ)
    → IsSymbolOf styles unit text ↔ (commodity_by_symbol styles (symbol_in_text text) ≡ Ok unit)
symbol_iff styles unit text = (to, at (symbol_in_text text) refl)
  where
    to : IsSymbolOf styles unit text → commodity_by_symbol styles (symbol_in_text text) ≡ Ok unit
    to w = rw ((whole_symbol w.symbol text).1 w.written, w.declared) refl

    ok_is : (r : Result Commodity Cause) (x y : Commodity) → r ≡ Ok x → r ≡ Ok y → x ≡ y
    ok_is r x y e g = cc

    placed : (symbol : List ℕ) → WritesSymbol symbol text → (o : Option ℕ) → place_of styles symbol ≡ o
        → symbol_at o ≡ Ok unit → IsSymbolOf styles unit text
    placed symbol w None e k = absurd cc
    placed symbol w (Some place) e k =
        subst (λ (u : Commodity). IsSymbolOf styles u text) (ok_is _ _ _ refl k)
        (record { symbol = symbol; written = w; declared = e })

    at : (o : Option (List ℕ)) → symbol_in_text text ≡ o → commodity_by_symbol styles o ≡ Ok unit
        → IsSymbolOf styles unit text
    at None e k = absurd cc
    at (Some symbol) e k = placed symbol ((whole_symbol symbol text).0 e) (place_of styles symbol) refl k

-- ---- a digit outside quotes

digit_free : IsFree is_ascii_digit
digit_free = record { quote = refl; signs = (refl, refl); blank = blank_is; symbol = symbol_is }
  where
    blank_is : (b : ℕ) → is_blank b ≡ true → is_ascii_digit b ≡ false
    blank_is b h = grind (arith, common_steps)

    symbol_is : (b : ℕ) → is_of_class Symbol b ≡ true → is_ascii_digit b ≡ false
    symbol_is b h = grind (arith, common_steps)

-- a whole part begins with a digit
whole_digit : (group b : ℕ) (rest : List ℕ) → is_whole group (b ∷ rest) ≡ true → is_ascii_digit b ≡ true
whole_digit group b rest h =
    let k : list_all is_group (slice_split (λ c. c == group) (b ∷ rest)) ≡ true =
    rw (ne_eqb (length (b ∷ rest)) 0 (λ e. omega (arith, e))) at h in
    elim (cases_Bool (b == group)) [
      | inl mark ↦ absurd (let none = rw mark at k in cc)
      | inr other ↦ onto (slice_split (λ c. c == group) rest) (rw other at k)
    ]
  where
    first : (xs : List ℕ) → is_group (b ∷ xs) ≡ true → is_ascii_digit b ≡ true
    first xs g = (and_parts (is_ascii_digit b) _ (rw (ne_eqb (length (b ∷ xs)) 0 (λ e. omega (arith, e))) at g)).0

    onto : (parts : List (List ℕ)) → list_all is_group (onto_first b parts) ≡ true → is_ascii_digit b ≡ true
    onto [] g = first [] (and_parts (is_group (b ∷ [])) _ g).0
    onto (part ∷ parts) g = first part (and_parts (is_group (b ∷ part)) _ g).0

digit_first : (b : ℕ) (rest : List ℕ) → is_ascii_digit b ≡ true → outside is_ascii_digit false (b ∷ rest) ≡ 0
unfolding outside
digit_first b rest h = rw h refl

mark_first : (mark : Mark) (rest : List ℕ)
    → outside is_ascii_digit false (decimal_byte mark ∷ rest) ≡ 1 + outside is_ascii_digit false rest
unfolding outside
mark_first Point rest = refl
mark_first Comma rest = refl

-- a number has a digit
number_digit : (mark : Mark) (number rest : List ℕ) → is_number mark number ≡ true
    → outside is_ascii_digit false (number ++ rest) < length number
number_digit mark [] rest h = absurd cc
number_digit mark (b ∷ number) rest h =
    elim (cases_Bool (b == decimal_byte mark)) [
      | inl point ↦
          let behind = fraction number (is_fraction point) (some_fraction point) in
          let e : b ≡ decimal_byte mark = eqb-true b (decimal_byte mark) point in
          omega (
            arith,
            behind,
            ap (λ (x : ℕ). outside is_ascii_digit false (x ∷ (number ++ rest))) e ∙ mark_first mark
                (number ++ rest),
          )
      | inr other ↦ omega (arith, digit_first b (number ++ rest) (whole_first other))
    ]
  where
    parts : (is_whole (group_byte mark) (whole_part mark (b ∷ number)) ≡ true)
        × (list_all is_ascii_digit (fraction_part mark (b ∷ number)) ≡ true)
    parts = number_parts mark (b ∷ number) h

    is_fraction : (b == decimal_byte mark) ≡ true → list_all is_ascii_digit number ≡ true
    is_fraction point = rw point at parts.1

    some_fraction : (b == decimal_byte mark) ≡ true → 0 < length number
    some_fraction point = at number (rw point at h)
      where
        at : (xs : List ℕ) → cond (0 + length xs == 0) false (list_all is_ascii_digit xs) ≡ true → 0 < length xs
        at [] k = absurd cc
        at (x ∷ xs) k = omega arith

    fraction : (xs : List ℕ) → list_all is_ascii_digit xs ≡ true → 0 < length xs
        → outside is_ascii_digit false (xs ++ rest) < length xs
    fraction [] k some = absurd (omega (arith, some))
    fraction (x ∷ xs) k some = omega (arith, digit_first x (xs ++ rest) (and_parts (is_ascii_digit x) _ k).0)

    whole_first : (b == decimal_byte mark) ≡ false → is_ascii_digit b ≡ true
    whole_first other =
        let n : 1 + position_or_len (λ c. c == decimal_byte mark) number
        ≡ suc (position_or_len (λ c. c == decimal_byte mark) number) = omega arith in
        whole_digit (group_byte mark) b _ (rw (other, n) at parts.0)

pub sample_digit : (text : List ℕ) (style : Style) → IsSample text style → shows_digit text ≡ true
sample_digit text style s =
    let at = number_in is_ascii_digit digit_free style.mark text s.parts s.amount in
    let number = s.parts.number in
    let digit = number_digit style.mark number at.after s.amount.number in
    let place : outside is_ascii_digit false text
    ≡ length at.before + outside is_ascii_digit false (number ++ at.after) =
    ap (outside is_ascii_digit false) at.whole ∙ at.passed_before (number ++ at.after) in
    let size : length text ≡ length at.before + (length number + length at.after) =
    ap length at.whole ∙
    (length-append at.before (number ++ at.after) ∙ ap (λ (n : ℕ). length at.before + n)
    (length-append number at.after)) in
    lt-ltb (outside is_ascii_digit false text) (length text) (omega (arith, digit, place, size))

pub symbol_digit : (symbol text : List ℕ) → WritesSymbol symbol text → shows_digit text ≡ false
unfolding outside
symbol_digit symbol text w =
    let place : outside is_ascii_digit false text ≡ length text + 0 =
    ap (outside is_ascii_digit false) (sym (append-nil text)) ∙ passed_symbol is_ascii_digit digit_free symbol text
    w [] in
    le-ltb (outside is_ascii_digit false text) (length text) (omega (arith, place))

sample_some : (text : List ℕ) (style : Style) → IsSample text style → (length text == 0) ≡ false
sample_some text style s =
    ne_eqb (length text) 0 (λ e. omega (arith, e, (solid_amount style.mark text s.parts s.amount).some))

symbol_some : (symbol text : List ℕ) → WritesSymbol symbol text → (length text == 0) ≡ false
symbol_some symbol text w = ne_eqb (length text) 0 (λ e. omega (arith, e, (solid_symbol symbol text w).some))

-- ---- the commodity of a text

pub named_iff : (styles : List Style) (unit : Commodity) (text : List ℕ)
    → (IsSampleOf styles unit text ⊎ IsSymbolOf styles unit text) ↔ (commodity_named styles text ≡ Ok unit)
unfolding commodity_named
named_iff styles unit text = (to, from)
  where
    to : (IsSampleOf styles unit text ⊎ IsSymbolOf styles unit text)
        → cond (length text == 0) (Err Directive)
        (cond (shows_digit text) (sampled styles (style_of text))
        (commodity_by_symbol styles (symbol_in_text text))) ≡ Ok unit
    to (inl w) = rw (sample_some text w.sample w.spelled, sample_digit text w.sample w.spelled)
        ((sample_iff styles unit text).0 w)
    to (inr w) = rw (symbol_some w.symbol text w.written, symbol_digit w.symbol text w.written)
        ((symbol_iff styles unit text).0 w)

    from : cond (length text == 0) (Err Directive)
        (cond (shows_digit text) (sampled styles (style_of text))
        (commodity_by_symbol styles (symbol_in_text text))) ≡ Ok unit
        → (IsSampleOf styles unit text ⊎ IsSymbolOf styles unit text)
    from e = elim (cond_cases (length text == 0) _ _ _ e) [
      | inl none ↦ absurd (let no = none.1 in cc)
      | inr some ↦ elim (cond_cases (shows_digit text) _ _ _ some.1) [
        | inl digit ↦ inl ((sample_iff styles unit text).1 digit.1)
        | inr letters ↦ inr ((symbol_iff styles unit text).1 letters.1)
      ]
    ]

-- ---- a word, and what stands after it

-- what a text after a word has to be
record IsPlain (text : List ℕ) : Type 0 where
  some : 0 < length text
  trimmed : is_trimmed text ≡ true
  free : list_all (λ b. not (b == 59)) text ≡ true

plain_sample : (styles : List Style) (unit : Commodity) (text : List ℕ) → IsSampleOf styles unit text → IsPlain text
plain_sample styles unit text w =
    let s = w.spelled in
    let solid = solid_amount w.sample.mark text s.parts s.amount in
    record {
      some = solid.some;
      trimmed = rw (first_amount is_blank bars_blank w.sample.mark text s.parts s.amount, solid.last) refl;
      free = bytes_amount (λ b. not (b == 59)) allows_no_comment w.sample.mark text s.parts s.amount;
    }

plain_symbol : (styles : List Style) (unit : Commodity) (text : List ℕ) → IsSymbolOf styles unit text → IsPlain text
plain_symbol styles unit text w =
    let solid = solid_symbol w.symbol text w.written in
    let first : is_blank (slice_index text 0) ≡ false =
    ap (λ (xs : List ℕ). is_blank (slice_index xs 0)) (sym (append-nil text)) ∙
    (symbol_begins w.symbol text [] w.written).no_blank in
    record {
      some = solid.some;
      trimmed = rw (first, solid.last) refl;
      free = bytes_symbol (λ b. not (b == 59)) allows_no_comment w.symbol text w.written;
    }

plain_name : (styles : List Style) (unit : Commodity) (text : List ℕ)
    → (IsSampleOf styles unit text ⊎ IsSymbolOf styles unit text) → IsPlain text
plain_name styles unit text (inl w) = plain_sample styles unit text w
plain_name styles unit text (inr w) = plain_symbol styles unit text w

-- a word: no blank and no `;`
record IsWord (word : List ℕ) : Type 0 where
  solid : list_all (λ b. not (is_blank b)) word ≡ true
  free : list_all (λ b. not (b == 59)) word ≡ true

commodity_word : IsWord (codes "commodity")
commodity_word = record { solid = refl; free = refl }

format_word : IsWord (codes "format")
format_word = record { solid = refl; free = refl }

-- what follows the word at the front
behind_is : (word rest : List ℕ) → IsWord word → StartsBlank rest
    → (first_word (word ++ rest) ≡ word) × (behind_word (word ++ rest) ≡ trim rest)
unfolding first_word
behind_is word rest w s =
    let ends = date_ends word rest w.solid s in (
      rw ends (take-append_seam word rest),
      rw ends (rw (take-append_seam word rest, drop_at word rest (length word) refl) refl),
    )

blanks_start : (gap rest : List ℕ) → gap ≢ [] → list_all is_blank gap ≡ true → StartsBlank (gap ++ rest)
blanks_start [] rest some h = absurd (some refl)
blanks_start (b ∷ gap) rest some h = (and_parts (is_blank b) _ h).0

-- the front of a line after what has no `;`
front_behind : (word rest : List ℕ) → list_all (λ b. not (b == 59)) word ≡ true
    → front_of (word ++ rest) ≡ word ++ front_of rest
unfolding front_of
front_behind [] rest h = refl
front_behind (b ∷ word) rest h =
    let parts = and_parts (not (b == 59)) _ h in
    let n : 1 + position_or_len (λ c. c == 59) (word ++ rest) ≡ suc (position_or_len (λ c. c == 59) (word ++ rest)) =
    omega arith in
    rw (not-true _ parts.0, n) (ap (λ (xs : List ℕ). b ∷ xs) (front_behind word rest parts.1))

-- the text after the word of a line in that form
text_behind : (word : List ℕ) (is : List ℕ → Type 0) (line : List ℕ) → IsWord word
    → ((text : List ℕ) → is text → IsPlain text) → (w : HasBehind word is line)
    → (first_word line ≡ word) × (behind_word (front_of line) ≡ w.text)
text_behind word is line good plain w =
    let gaps = in_row w.gap w.end_gap w.blanks in
    let p = plain w.text w.holds in
    let behind = w.gap ++ (w.text ++ w.end_gap) in
    let front = word ++ behind in
    let free : (xs : List ℕ) → list_all is_blank xs ≡ true
    → list_all (λ b. not (b == 59)) xs ≡ true = λ xs h.
    all_weaker is_blank (λ b. not (b == 59)) xs blank_no_semicolon h in
    let no : list_all (λ b. not (b == 59)) front ≡ true =
    all_joined (λ b. not (b == 59)) word behind good.free
    (all_joined (λ b. not (b == 59)) w.gap (w.text ++ w.end_gap) (free w.gap gaps.0)
    (all_joined (λ b. not (b == 59)) w.text w.end_gap p.free (free w.end_gap gaps.1))) in
    let whole : line ≡ front ++ w.remark = w.written ∙ regroup word w.gap w.text w.end_gap w.remark in
    let front_is : front_of line ≡ front =
    ap front_of whole ∙ (remark_reads front w.remark w.comment no w.commented).0 in
    let start = blanks_start w.gap (w.text ++ w.end_gap) w.apart gaps.0 in
    let later = blanks_start w.gap (w.text ++ (w.end_gap ++ w.remark)) w.apart gaps.0 in (
      ap first_word w.written ∙ (behind_is word (w.gap ++ (w.text ++ (w.end_gap ++ w.remark))) good later).0,
      ap behind_word front_is ∙ ((behind_is word behind good start).1 ∙ trim_inside w.gap w.text w.end_gap gaps.0 gaps.1
          p.trimmed),
    )
  where
    regroup : (a b c d e : List ℕ) → a ++ (b ++ (c ++ (d ++ e))) ≡ (a ++ (b ++ (c ++ d))) ++ e
    regroup a b c d e = simp append_assoc

-- a line that begins with the word has its first word there
word_split : (word line : List ℕ) → first_word line ≡ word → (rest : List ℕ) × (line ≡ word ++ rest) × StartsBlank rest
unfolding first_word
word_split word line e = (
  drop n line,
  sym (take-append-drop n line) ∙ ap (λ (xs : List ℕ). xs ++ drop n line) e,
  elim (cases_lt n (length line)) [
    | inl inside ↦ subst StartsBlank (sym (drop-cons line n 0 inside)) (passes_at_first is_blank line 0 inside)
    | inr past ↦ subst StartsBlank (sym (drop_all n line past)) tt
  ],
)
  where
    n : ℕ
    n = position_or_len is_blank line

    drop_all : (k : ℕ) (xs : List ℕ) → length xs ≤ k → drop k xs ≡ []
    drop_all k xs h = grind (arith, common_steps)

front_starts : (rest : List ℕ) → StartsBlank rest → StartsBlank (front_of rest)
unfolding front_of
front_starts [] h = tt
front_starts (b ∷ rest) h =
    let n : 1 + position_or_len (λ c. c == 59) rest ≡ suc (position_or_len (λ c. c == 59) rest) = omega arith in
    rw (not-true _ (blank_no_semicolon b h), n) h

-- a line that begins with the word and has such a text after it has that form
has_behind : (word : List ℕ) (is : List ℕ → Type 0) (line : List ℕ) → IsWord word
    → ((text : List ℕ) → is text → IsPlain text) → first_word line ≡ word → is (behind_word (front_of line))
    → HasBehind word is line
has_behind word is line good plain first holds =
    let split = word_split word line first in
    let rest = front_of split.0 in
    let front_is : front_of line ≡ word ++ rest = ap front_of split.1 ∙ front_behind word split.0 good.free in
    let start = front_starts split.0 split.2 in
    let text_is : behind_word (front_of line) ≡ trim rest =
    ap behind_word front_is ∙ (behind_is word rest good start).1 in
    let is_text : is (trim rest) = subst is text_is holds in
    let remark = remark_form line in
    let gap = take (first_solid rest) rest in
    let end = end_blanks (trim_start rest) in
    let rest_is : rest ≡ gap ++ (trim rest ++ end) =
    split_start rest ∙ ap (λ (xs : List ℕ). gap ++ xs) (split_end (trim_start rest)) in
    record {
      gap = gap;
      text = trim rest;
      end_gap = end;
      remark = remark.remark;
      written = remark.written ∙ (ap (λ (xs : List ℕ). xs ++ remark.remark)
          (front_is ∙ ap (λ (xs : List ℕ). word ++ xs) rest_is) ∙ regroup word gap (trim rest) end remark.remark);
      blanks = all_joined is_blank gap end (blanks_front rest) (blanks_end (trim_start rest));
      apart = some rest start (plain (trim rest) is_text).some;
      holds = is_text;
      comment = comment_of line;
      commented = remark.is;
    }
  where
    regroup : (a b c d e : List ℕ) → (a ++ (b ++ (c ++ d))) ++ e ≡ a ++ (b ++ (c ++ (d ++ e)))
    regroup a b c d e = simp append_assoc

    none : 0 < length (trim []) → ⊥
    none h = omega (arith, h, ap length (trim_inside [] [] [] refl refl refl))

    some : (xs : List ℕ) → StartsBlank xs → 0 < length (trim xs) → take (first_solid xs) xs ≢ []
    some [] s h = absurd (none h)
    some (b ∷ xs) s h =
        let n : 1 + first_solid xs ≡ suc (first_solid xs) = omega arith in
        rw (s, n) (λ e. absurd cc)

-- ---- the two laws

first_word_of : (line : List ℕ) → kind_of line ≡ kind.Commodity → first_word line ≡ codes "commodity"
unfolding is_commodity_word
first_word_of line h = same_text (first_word line) (codes "commodity")
    (sym (word (is_commodity_word (first_word line)) (is_skipped_word (first_word line))
    (other _ _ _ (other _ _ _ (other _ _ _ (other _ _ _ (other _ _ _ h blank) comment) block) header) indented)))
  where
    -- a case that is not the one
    other : (b : Bool) (x y : LineKind) → cond b x y ≡ kind.Commodity → (x ≡ kind.Commodity → ⊥) → y ≡ kind.Commodity
    other true x y e no_x = absurd (no_x e)
    other false x y e no_x = e

    word : (b c : Bool) → cond b kind.Commodity (cond c kind.Skipped kind.Unknown) ≡ kind.Commodity → b ≡ true
    word true c e = refl
    word false true e = absurd cc
    word false false e = absurd cc

    blank : kind.Blank ≡ kind.Commodity → ⊥
    blank e = cc

    comment : kind.Comment ≡ kind.Commodity → ⊥
    comment e = cc

    block : kind.Block ≡ kind.Commodity → ⊥
    block e = cc

    header : kind.Header ≡ kind.Commodity → ⊥
    header e = cc

    indented : kind.Indented ≡ kind.Commodity → ⊥
    indented e = cc

pub names_iff : (styles : List Style) (line : List ℕ) (unit : Commodity) → kind_of line ≡ kind.Commodity
    → NamesCommodity styles unit line ↔ (commodity_of styles line ≡ Ok unit)
names_iff styles line unit k = (
  λ w. ap (commodity_named styles) (text_behind (codes "commodity") _ line commodity_word (plain_name styles unit) w).1
      ∙ (named_iff styles unit w.text).0 w.holds,
  λ e. has_behind (codes "commodity") _ line commodity_word (plain_name styles unit) (first_word_of line k)
      ((named_iff styles unit (behind_word (front_of line))).1 e),
)

-- a line names one commodity at most
pub one_commodity : (styles : List Style) (line : List ℕ) (unit other : Commodity) → kind_of line ≡ kind.Commodity
    → NamesCommodity styles unit line → NamesCommodity styles other line → unit ≡ other
one_commodity styles line unit other k h w =
    same (commodity_of styles line) ((names_iff styles line unit k).0 h) ((names_iff styles line other k).0 w)
  where
    same : (r : Result Commodity Cause) → r ≡ Ok unit → r ≡ Ok other → unit ≡ other
    same r e f = cc

-- a line after its blanks, before its comment
front_first : (xs : List ℕ) → is_blank (slice_index xs 0) ≡ false → is_blank (slice_index (front_of xs) 0) ≡ false
unfolding front_of
front_first xs h =
    not-true _ (first_kept (λ b. not (is_blank b)) (position_or_len (λ b. b == 59) xs) xs (not_from_false _ h) refl)

front_trimmed : (line : List ℕ) → trim_start (front_of line) ≡ front_of (trim_start line)
front_trimmed line =
    let gap = take (first_solid line) line in
    let free : list_all (λ b. not (b == 59)) gap ≡ true =
    all_weaker is_blank (λ b. not (b == 59)) gap blank_no_semicolon (blanks_front line) in
    ap (λ (xs : List ℕ). trim_start (front_of xs)) (split_start line)
    ∙ (ap trim_start (front_behind gap (trim_start line) free) ∙
    (trim_start_behind gap (front_of (trim_start line)) (blanks_front line) ∙ trim_start_same
    (front_of (trim_start line)) (front_first (trim_start line) (trim_start_first line))))

-- the fault of a sample below a directive
pub sample_none : (styles : List Style) (unit : Commodity) (text : List ℕ)
    → IsSampleOf styles unit text ↔ (sample_fault styles unit (style_of text) ≡ None)
sample_none styles unit text = (to, at (style_of text) refl)
  where
    to : IsSampleOf styles unit text → sample_fault styles unit (style_of text) ≡ None
    to w = rw (
      spelled_style text w.sample w.spelled,
      w.declared,
      eq-eqb unit.0 unit.0 refl,
      sample_agrees styles unit text w,
    ) refl

    placed : (sample : Style) → IsSample text sample → (o : Option ℕ) → place_of styles sample.symbol ≡ o
        → format_at styles unit sample o ≡ None → IsSampleOf styles unit text
    placed sample s None e k = absurd cc
    placed sample s (Some place) e k =
        elim (cond_cases ((place == unit.0) && agrees (slice_get styles place) sample) _ _ _ k) [
          | inl good ↦
              let parts = and_parts (place == unit.0) _ good.0 in
              subst (λ (n : ℕ). IsSampleOf styles (record { 0 = n }) text) (eqb-true place unit.0 parts.0)
              (sample_there styles text sample place s e parts.1)
          | inr bad ↦ absurd (let no = bad.1 in cc)
        ]

    at : (o : Option Style) → style_of text ≡ o → sample_fault styles unit o ≡ None → IsSampleOf styles unit text
    at None e k = absurd cc
    at (Some sample) e k = placed sample (style_spelled text sample e) (place_of styles sample.symbol) refl k

pub is_format_iff : (line : List ℕ) → (is_format line ≡ true) ↔ (first_word (trim_start line) ≡ codes "format")
unfolding is_format
is_format_iff line = (
  λ h. same_text (first_word (trim_start line)) (codes "format") (sym h),
  λ e.
      ap (λ (xs : List ℕ). is_same xs (codes "format")) e,
)

pub below_iff : (styles : List Style) (line : List ℕ) (unit : Commodity)
    → IsBelow styles unit line ↔ (format_fault styles unit line ≡ None)
unfolding format_fault
below_iff styles line unit = elim (cases_Bool (is_format line)) [
  | inl form ↦ (
    λ w. elim w [
      | inl other ↦ absurd (other ((is_format_iff line).0 form))
      | inr sample ↦ rw form (ap (λ (xs : List ℕ). sample_fault styles unit (style_of (behind_word xs)))
          (front_trimmed line)
          ∙ (ap (λ (xs : List ℕ). sample_fault styles unit (style_of xs))
          (text_behind (codes "format") _ (trim_start line) format_word (plain_sample styles unit) sample).1 ∙
          (sample_none styles unit sample.text).0 sample.holds))
    ],
    λ e. inr (has_behind (codes "format") _ (trim_start line) format_word (plain_sample styles unit)
        ((is_format_iff line).0 form)
        ((sample_none styles unit (behind_word (front_of (trim_start line)))).1
        (ap (λ (xs : List ℕ). sample_fault styles unit (style_of (behind_word xs))) (sym (front_trimmed line)) ∙ rw
        form at e))),
  )
  | inr other ↦ (λ w. rw other refl, λ e. inl (λ same. absurd (let both = (is_format_iff line).1 same in cc)))
]
