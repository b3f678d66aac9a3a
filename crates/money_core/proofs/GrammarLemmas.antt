-- An amount is cut into its parts, and so only; and what is cut is an amount.
use Rattle.std.proofs.Common.{◌≡◌, ◌↔◌, ◌<◌, ◌+◌, ◌++◌, ◌==◌, ℕ, List, [], ◌∷◌, Bool, true, false, cond, not, ◌&&◌}
use Rattle.std.proofs.Common.{◌||◌, length, take, drop, slice_index, get_or, arith, refl, ap, ◌∙◌, sym, subst}
use Rattle.std.proofs.Common.{append-nil, append_assoc, one-add, Option, Some, None, option_and_then, inl, inr, nat_lt}
use Rattle.std.proofs.Common.{length-append}
use Rattle.std.proofs.lemmas.Grind.{common_steps}
use Rattle.std.proofs.lemmas.Bool.{not_from_false, cases_Bool, and_parts, and_from, ltb-true, lt-ltb, eqb-true, or_left}
use Rattle.std.proofs.lemmas.Bool.{or_right, or_cases, cond-true, cond-false, cases_lt, ne_eqb}
use Rattle.std.proofs.lemmas.List.{take-append-drop, take_all, drop_at}
use Rattle.std.proofs.lemmas.List.Folds.{length-prefix_len}
use Rattle.std.proofs.lemmas.List.Sums.{split_at_first, passes_at_first}
use Rattle.std.proofs.Math.Seq.{take-append_seam, drop-append-add}
use Rattle.std.proofs.lemmas.Option.{same_Some}
use Rattle.std.specs.List.{list_all, slice_split, onto_first, position_or_len, before_first, after_first}
use Rattle.std.specs.Char.{is_ascii_digit}
use Rattle.std.specs.Str.{is_utf8}
use Rattle.money_core.specs.declared.mark.Mark.{Mark}
use Rattle.money_core.specs.declared.mark.Mark.TheVariants.{Point, Comma}
use Rattle.money_core.specs.declared.class.Class.{Class}
use Rattle.money_core.specs.declared.class.Class.TheVariants.{Blank, Symbol, Number}
use Rattle.money_core.specs.declared.amount.Sign.{Sign}
use Rattle.money_core.specs.declared.amount.Sign.TheVariants.{Absent, Plus, Minus}
use Rattle.money_core.specs.Blank.{IsBlanks}
use Rattle.money_core.specs.Class.{is_of_class}
use Rattle.money_core.specs.Mark.{decimal_byte, group_byte}
use Rattle.money_core.specs.Number.{is_group, is_whole, is_number, whole_part, fraction_part}
use Rattle.money_core.specs.Symbol.{is_bare, is_symbol, is_quoted_byte, in_quotes, WritesSymbol}
use Rattle.money_core.specs.Amount.{Parts, WritesSign, IsLeftAmount, IsRightAmount, IsAmount}
use Rattle.money_core.specs.Cutting.{end_of, skip_blanks, Cut, cut_quoted, cut_bare, cut_symbol, symbol_in_text}
use Rattle.money_core.specs.Cutting.{sign_of}
use Rattle.money_core.specs.Cutting.{unsigned, left_number, left_parts, right_symbol, right_parts, amount_parts}
use Rattle.money_core.proofs.RoundTrip.{before_mark, split_some}
use Rattle.money_core.proofs.SymbolText.{symbol_facts, bare_facts, short_some, written_symbol}
use Rattle.money_core.proofs.ClassLemmas.{all_weaker, all_joined, first_passes, EndsClass, class_end, digit_number}
use Rattle.money_core.proofs.ClassLemmas.{symbol_no_quote, symbol_no_minus, symbol_no_plus, symbol_no_number}
use Rattle.money_core.proofs.ClassLemmas.{symbol_no_blank, number_no_symbol, number_no_quote, number_no_minus}
use Rattle.money_core.proofs.ClassLemmas.{number_no_plus, number_no_blank, blank_no_symbol, blank_no_number}
use Rattle.money_core.proofs.ListLemmas.{nil_from_empty}

-- the longest front of a class, and what follows it
pub front_whole : (class : Class) (text : List ℕ)
    → text ≡ take (end_of class text) text ++ drop (end_of class text) text
front_whole class text = sym (take-append-drop (end_of class text) text)

pub front_passes : (class : Class) (text : List ℕ) → list_all (is_of_class class) (take (end_of class text) text) ≡ true
front_passes class [] = refl
front_passes class (x ∷ xs) =
    elim (cases_Bool (is_of_class class x)) [
      | inl here ↦ rw (here, one-add (end_of class xs), here) (front_passes class xs)
      | inr other ↦ rw other refl
    ]

pub front_length : (class : Class) (text : List ℕ) → length (take (end_of class text) text) ≡ end_of class text
front_length class text = length-prefix_len (λ b. not (not (is_of_class class b))) text

-- what begins with a byte of another class ends a class
pub ends_at_other : (class : Class) (rest : List ℕ) → is_of_class class (slice_index rest 0) ≡ false
    → EndsClass class rest
ends_at_other class [] h = tt
ends_at_other class (b ∷ rest) h = h

-- blanks, and what begins with none
pub blanks_end : (blanks rest : List ℕ) → IsBlanks blanks → is_of_class Blank (slice_index rest 0) ≡ false
    → end_of Blank (blanks ++ rest) ≡ length blanks
blanks_end blanks rest h k = class_end Blank blanks rest h (ends_at_other Blank rest k)

pub blanks_skipped : (blanks rest : List ℕ) → IsBlanks blanks → is_of_class Blank (slice_index rest 0) ≡ false
    → skip_blanks (blanks ++ rest) ≡ rest
blanks_skipped blanks rest h k = rw (blanks_end blanks rest h k) (drop_at blanks rest (length blanks) refl)

-- a class that a blank is not of ends at blanks, too
pub ends_at_blanks : (class : Class) (blanks rest : List ℕ)
    → ((b : ℕ) → is_of_class Blank b ≡ true → is_of_class class b ≡ false)
    → IsBlanks blanks → is_of_class class (slice_index rest 0) ≡ false → EndsClass class (blanks ++ rest)
ends_at_blanks class [] rest f h k = ends_at_other class rest k
ends_at_blanks class (b ∷ blanks) rest f h k = f b (and_parts (is_of_class Blank b) _ h).0

-- the first byte of a symbol as it is written
pub record BeginsSymbol (text : List ℕ) : Type 0 where
  pub first : (is_of_class Symbol (slice_index text 0) || (slice_index text 0 == 34)) ≡ true
  pub no_sign : sign_of (slice_index text 0) ≡ Absent
  pub no_blank : is_of_class Blank (slice_index text 0) ≡ false
  pub no_number : is_of_class Number (slice_index text 0) ≡ false

no_sign_of : (b : ℕ) → (b == 45) ≡ false → (b == 43) ≡ false → sign_of b ≡ Absent
no_sign_of b h k = rw (h, k) refl

bare_begins : (text : List ℕ) → is_of_class Symbol (slice_index text 0) ≡ true → BeginsSymbol text
bare_begins text h =
    let b = slice_index text 0 in
    record {
      first = or_left (is_of_class Symbol b) (b == 34) h;
      no_sign = no_sign_of b (symbol_no_minus b h) (symbol_no_plus b h);
      no_blank = symbol_no_blank b h;
      no_number = symbol_no_number b h;
    }

pub symbol_begins : (symbol written rest : List ℕ) → WritesSymbol symbol written → BeginsSymbol (written ++ rest)
symbol_begins symbol written rest (inl h) =
    rw h.1 (bare_begins (symbol ++ rest)
    (first_passes (is_of_class Symbol) symbol rest (bare_facts symbol h.0).bytes
    (short_some symbol (bare_facts symbol h.0).short)))
symbol_begins symbol written rest (inr h) =
    rw h.1 (record { first = refl; no_sign = refl; no_blank = refl; no_number = refl })

pub quoted_no_quote : (b : ℕ) → is_quoted_byte b ≡ true → (b == 34) ≡ false
quoted_no_quote b h = grind (arith, common_steps)

-- A symbol at the front is cut whole.
pub symbol_cut : (symbol written rest : List ℕ) → WritesSymbol symbol written → EndsClass Symbol rest
    → cut_symbol (written ++ rest) ≡ Some (record { symbol = symbol; rest = rest })
unfolding cut_symbol
symbol_cut symbol written rest (inl h) ends =
    let first = first_passes (is_of_class Symbol) symbol rest (bare_facts symbol h.0).bytes
    (short_some symbol (bare_facts symbol h.0).short) in
    rw (
      h.1,
      symbol_no_quote (slice_index (symbol ++ rest) 0) first,
      class_end Symbol symbol rest (bare_facts symbol h.0).bytes ends,
      take-append_seam symbol rest,
      h.0,
      drop_at symbol rest (length symbol) refl,
    ) refl
symbol_cut symbol written rest (inr h) ends =
    let seam : (symbol ++ 34 ∷ []) ++ rest ≡ symbol ++ 34 ∷ rest = append_assoc symbol (34 ∷ []) rest in
    let at = before_mark (λ b. b == 34) symbol rest 34
    (all_weaker is_quoted_byte (λ b. not (b == 34)) symbol (λ b k. not_from_false _ (quoted_no_quote b k))
    (symbol_facts symbol h.0).bytes) refl in
    let inside : length symbol < length (symbol ++ 34 ∷ rest) = rw (length-append symbol (34 ∷ rest)) (omega arith) in
    rw (
      h.1,
      seam,
      at,
      lt-ltb (length symbol) (length (symbol ++ 34 ∷ rest)) inside,
      take-append_seam symbol (34 ∷ rest),
      h.0,
      drop-append-add symbol (34 ∷ rest) 1,
    ) refl

-- what was cut off at the front is how the symbol is written
pub record SymbolFront (text : List ℕ) (cut : Cut) : Type 0 where
  pub written : List ℕ
  pub whole : text ≡ written ++ cut.rest
  pub writes : WritesSymbol cut.symbol written

pub Some_only_if_true : {A : Type 0} (b : Bool) (x y : A) → cond b (Some x) None ≡ Some y → (b ≡ true) × (x ≡ y)
Some_only_if_true true x y h = (refl, same_Some x y h)
Some_only_if_true false x y h = absurd cc

bare_front : (text : List ℕ) (cut : Cut) → cut_bare text ≡ Some cut → SymbolFront text cut
bare_front text cut h =
    let n = end_of Symbol text in
    let t = Some_only_if_true (is_bare (take n text)) (record { symbol = take n text; rest = drop n text }) cut h in
    subst (SymbolFront text) t.1 (record
    { written = take n text; whole = front_whole Symbol text; writes = inl (t.0, refl) })

quoted_front : (text : List ℕ) (cut : Cut) → cut_quoted text ≡ Some cut → SymbolFront (34 ∷ text) cut
quoted_front text cut h =
    let p : ℕ → Bool = λ b. b == 34 in
    let n = position_or_len p text in
    let t = Some_only_if_true (nat_lt n (length text) && is_symbol (before_first p text))
    (record { symbol = before_first p text; rest = after_first p text }) cut h in
    let both = and_parts (nat_lt n (length text)) _ t.0 in
    let inside = ltb-true n (length text) both.0 in
    let mark : get_or text n 0 ≡ 34 = eqb-true (get_or text n 0) 34 (passes_at_first p text 0 inside) in
    let parts = split_at_first p text 0 inside in
    let seam : text ≡ (before_first p text ++ 34 ∷ []) ++ after_first p text =
    rw mark at parts ∙ sym (append_assoc (before_first p text) (34 ∷ []) (after_first p text)) in
    subst (SymbolFront (34 ∷ text)) t.1
    (record {
      written = in_quotes (before_first p text);
      whole = ap (λ (xs : List ℕ). 34 ∷ xs) seam;
      writes = inr (both.1, refl);
    })

pub symbol_front : (text : List ℕ) (cut : Cut) → cut_symbol text ≡ Some cut → SymbolFront text cut
unfolding cut_symbol
symbol_front [] cut h = bare_front [] cut h
symbol_front (b ∷ text) cut h =
    elim (cases_Bool (b == 34)) [
      | inl quote ↦
          let e : b ≡ 34 = eqb-true b 34 quote in
          let k : cut_quoted text ≡ Some cut =
          sym (cond-true (b == 34) (cut_quoted text) (cut_bare (b ∷ text)) quote) ∙ h in
          subst (λ (c : ℕ). SymbolFront (c ∷ text) cut) (sym e) (quoted_front text cut k)
      | inr other ↦ bare_front (b ∷ text) cut
          (sym (cond-false (b == 34) (cut_quoted text) (cut_bare (b ∷ text)) other) ∙ h)
    ]

-- A text is a symbol exactly where it is cut whole.
pub whole_symbol : (symbol text : List ℕ) → (symbol_in_text text ≡ Some symbol) ↔ WritesSymbol symbol text
unfolding symbol_in_text
whole_symbol symbol text = (λ h. there (cut_symbol text) refl h, λ w. back w)
  where
    empty : (xs : List ℕ) → (length xs == 0) ≡ true → xs ≡ []
    empty [] h = refl
    empty (x ∷ xs) h = absurd (omega (arith, eqb-true (length (x ∷ xs)) 0 h))

    there : (o : Option Cut) → cut_symbol text ≡ o
        → option_and_then (λ cut. cond (length cut.rest == 0) (Some cut.symbol) None) o ≡ Some symbol
        → WritesSymbol symbol text
    there None e k = absurd cc
    there (Some cut) e k =
        let t = Some_only_if_true (length cut.rest == 0) cut.symbol symbol k in
        let front = symbol_front text cut e in
        let whole : text ≡ front.written =
        front.whole ∙ (ap (λ (xs : List ℕ). front.written ++ xs) (empty cut.rest t.0) ∙ append-nil front.written) in
        subst (λ (xs : List ℕ). WritesSymbol symbol xs) (sym whole)
        (subst (λ (xs : List ℕ). WritesSymbol xs front.written) t.1 front.writes)

    back : WritesSymbol symbol text
        → option_and_then (λ cut. cond (length cut.rest == 0) (Some cut.symbol) None) (cut_symbol text) ≡ Some symbol
    back w = let cut = symbol_cut symbol text [] w tt in rw (rw append-nil at cut) refl

pub symbol_answer : (text : List ℕ) (o : Option (List ℕ)) → o ≡ symbol_in_text text → (symbol : List ℕ)
    → (o ≡ Some symbol) ↔ WritesSymbol symbol text
symbol_answer text o e symbol = (λ h. (whole_symbol symbol text).0 (sym e ∙ h), λ w. e ∙ (whole_symbol symbol text).1 w)

pub whole_utf8 : (symbol text : List ℕ) → symbol_in_text text ≡ Some symbol → is_utf8 symbol ≡ true
whole_utf8 symbol text h = (symbol_facts symbol (written_symbol symbol text ((whole_symbol symbol text).0 h))).utf8

-- what stands before the unsigned text is how its sign is written
pub record SignFront (text : List ℕ) : Type 0 where
  pub written : List ℕ
  pub whole : text ≡ written ++ unsigned text
  pub writes : WritesSign (sign_of (slice_index text 0)) written

blanks_front : (text : List ℕ) → text ≡ take (end_of Blank text) text ++ skip_blanks text
blanks_front text = front_whole Blank text

pub sign_front : (text : List ℕ) → SignFront text
sign_front [] = record { written = []; whole = refl; writes = refl }
sign_front (b ∷ text) =
    let blanks = take (end_of Blank text) text in
    elim (cases_Bool (b == 45)) [
      | inl minus ↦ record {
        written = b ∷ blanks;
        whole = rw minus (ap (λ (xs : List ℕ). b ∷ xs) (blanks_front text));
        writes = rw minus (blanks, (front_passes Blank text, ap (λ (c : ℕ). c ∷ blanks) (eqb-true b 45 minus)));
      }
      | inr no_minus ↦ elim (cases_Bool (b == 43)) [
        | inl plus ↦ record {
          written = b ∷ blanks;
          whole = rw (no_minus, plus) (ap (λ (xs : List ℕ). b ∷ xs) (blanks_front text));
          writes =
              rw (no_minus, plus) (blanks, (front_passes Blank text, ap (λ (c : ℕ). c ∷ blanks) (eqb-true b 43 plus)));
        }
        | inr no_plus ↦ record {
          written = [];
          whole = rw (no_minus, no_plus) refl;
          writes = rw (no_minus, no_plus) refl;
        }
      ]
    ]

-- a sign before what begins with none
pub record Unsigns (sign : Sign) (text rest : List ℕ) : Type 0 where
  pub sign_is : sign_of (slice_index text 0) ≡ sign
  pub rest_is : unsigned text ≡ rest

pub sign_cut : (sign : Sign) (written rest : List ℕ) → WritesSign sign written → sign_of (slice_index rest 0) ≡ Absent
    → is_of_class Blank (slice_index rest 0) ≡ false → Unsigns sign (written ++ rest) rest
sign_cut Absent written rest h s k = rw h (record { sign_is = s; rest_is = rw s refl })
sign_cut Plus written rest h s k = rw h.1.1 (record { sign_is = refl; rest_is = blanks_skipped h.0 rest h.1.0 k })
sign_cut Minus written rest h s k = rw h.1.1 (record { sign_is = refl; rest_is = blanks_skipped h.0 rest h.1.0 k })

-- the bytes of a number
digits_of_parts : (p : ℕ → Bool) (xs : List ℕ) → list_all is_group (slice_split p xs) ≡ true
    → list_all (λ b. is_ascii_digit b || p b) xs ≡ true
digits_of_parts p xs h = weak xs (all_lists_weaker (slice_split p xs) h)
  where
    group_digits : (part : List ℕ) → is_group part ≡ true → list_all is_ascii_digit part ≡ true
    group_digits [] h = refl
    group_digits (b ∷ part) h = rw (ne_eqb (length (b ∷ part)) 0 (omega arith)) at h

    all_lists_weaker : (parts : List (List ℕ)) → list_all is_group parts ≡ true
        → list_all (list_all is_ascii_digit) parts ≡ true
    all_lists_weaker [] h = refl
    all_lists_weaker (part ∷ parts) h = let both =
        and_parts (is_group part) _ h in and_from _ _ (group_digits part both.0) (all_lists_weaker parts both.1)

    onto : (b : ℕ) (parts : List (List ℕ)) → 0 < length parts
        → list_all (list_all is_ascii_digit) (onto_first b parts) ≡ true
        → (is_ascii_digit b ≡ true) × (list_all (list_all is_ascii_digit) parts ≡ true)
    onto b [] l h = absurd (omega arith)
    onto b (part ∷ parts) l h =
        let both = and_parts (is_ascii_digit b && list_all is_ascii_digit part) _ h in
        let first = and_parts (is_ascii_digit b) _ both.0 in
        (first.0, and_from _ _ first.1 both.1)

    weak : (xs : List ℕ) → list_all (list_all is_ascii_digit) (slice_split p xs) ≡ true
        → list_all (λ b. is_ascii_digit b || p b) xs ≡ true
    weak [] h = refl
    weak (x ∷ xs) h =
        elim (cases_Bool (p x)) [
          | inl mark ↦ let k = rw mark at h in and_from _ _ (or_right (is_ascii_digit x) (p x) mark) (weak xs k)
          | inr other ↦
              let k = rw other at h in
              let both = onto x (slice_split p xs) (split_some p xs) k in
              and_from _ _ (or_left (is_ascii_digit x) (p x) both.0) (weak xs both.1)
        ]

mark_number : (mark : Mark) → (is_of_class Number (group_byte mark) ≡ true)
    × (is_of_class Number (decimal_byte mark) ≡ true)
mark_number Point = (refl, refl)
mark_number Comma = (refl, refl)

-- the parts of the test on numbers
pub number_parts : (mark : Mark) (number : List ℕ) → is_number mark number ≡ true
    → (is_whole (group_byte mark) (whole_part mark number) ≡ true)
    × (list_all is_ascii_digit (fraction_part mark number) ≡ true)
number_parts mark number h =
    elim (cases_Bool (length (whole_part mark number) + length (fraction_part mark number) == 0)) [
      | inl none ↦ absurd (let k = rw none at h in cc)
      | inr some ↦ and_parts (is_whole (group_byte mark) (whole_part mark number)) _ (rw some at h)
    ]

-- A number is made of digits and marks, and is not empty.
pub record NumberText (number : List ℕ) : Type 0 where
  pub bytes : list_all (is_of_class Number) number ≡ true
  pub some : 0 < length number

whole_bytes : (mark : Mark) (whole : List ℕ) → is_whole (group_byte mark) whole ≡ true
    → list_all (is_of_class Number) whole ≡ true
whole_bytes mark [] h = refl
whole_bytes mark (b ∷ whole) h =
    let k : list_all is_group (slice_split (λ b. b == group_byte mark) (b ∷ whole)) ≡ true =
    rw (ne_eqb (length (b ∷ whole)) 0 (omega arith)) at h in
    all_weaker (λ b. is_ascii_digit b || (b == group_byte mark)) (is_of_class Number) (b ∷ whole) passes
    (digits_of_parts (λ b. b == group_byte mark) (b ∷ whole) k)
  where
    passes : (c : ℕ) → (is_ascii_digit c || (c == group_byte mark)) ≡ true → is_of_class Number c ≡ true
    passes c t =
        elim (or_cases (is_ascii_digit c) (c == group_byte mark) t) [
          | inl digit ↦ digit_number c digit
          | inr same ↦ ap (is_of_class Number) (eqb-true c (group_byte mark) same) ∙ (mark_number mark).0
        ]

number_bytes : (mark : Mark) (number : List ℕ) → is_whole (group_byte mark) (whole_part mark number) ≡ true
    → list_all is_ascii_digit (fraction_part mark number) ≡ true → list_all (is_of_class Number) number ≡ true
number_bytes mark number w f =
    let p : ℕ → Bool = λ b. b == decimal_byte mark in
    let whole = whole_bytes mark (whole_part mark number) w in
    elim (cases_lt (position_or_len p number) (length number)) [
      | inl inside ↦
          let byte : get_or number (position_or_len p number) 0 ≡ decimal_byte mark =
          eqb-true (get_or number (position_or_len p number) 0) (decimal_byte mark)
          (passes_at_first p number 0 inside) in
          let parts : number ≡ whole_part mark number ++ decimal_byte mark ∷ fraction_part mark number =
          rw byte at (split_at_first p number 0 inside) in
          let all =
          all_joined (is_of_class Number) (whole_part mark number) (decimal_byte mark ∷ fraction_part mark number) whole
          (and_from _ _ (mark_number mark).1
          (all_weaker is_ascii_digit (is_of_class Number) (fraction_part mark number) digit_number f)) in
          subst (λ (xs : List ℕ). list_all (is_of_class Number) xs ≡ true) (sym parts) all
      | inr past ↦ subst (λ (xs : List ℕ). list_all (is_of_class Number) xs ≡ true)
          (take_all (position_or_len p number) number past) whole
    ]

pub number_text : (mark : Mark) (number : List ℕ) → is_number mark number ≡ true → NumberText number
number_text mark [] h = absurd cc
number_text mark (b ∷ number) h =
    let k = number_parts mark (b ∷ number) h in
    record { bytes = number_bytes mark (b ∷ number) k.0 k.1; some = omega arith }

-- a number at the front
pub first_number : (number rest : List ℕ) → NumberText number
    → is_of_class Number (slice_index (number ++ rest) 0) ≡ true
first_number number rest h = first_passes (is_of_class Number) number rest h.bytes h.some

pub alone_first : (number : List ℕ) → NumberText number → is_of_class Number (slice_index number 0) ≡ true
alone_first number h =
    ap (λ (xs : List ℕ). is_of_class Number (slice_index xs 0)) (sym (append-nil number)) ∙ first_number number [] h

-- a symbol on the left, after a sign
left_after_sign : (sign : Sign) (symbol blanks number : List ℕ) → NumberText number → IsBlanks blanks
    → left_number sign symbol (blanks ++ number)
    ≡ record { sign = sign; left = true; spaced = not (length blanks == 0); symbol = symbol; number = number }
left_after_sign Absent symbol blanks number t h =
    let first = alone_first number t in
    let b = slice_index number 0 in
    let no_blank = number_no_blank b first in
    rw (
      blanks_skipped blanks number h no_blank,
      blanks_end blanks number h no_blank,
      number_no_minus b first,
      number_no_plus b first,
    ) refl
left_after_sign Plus symbol blanks number t h =
    let no_blank = number_no_blank (slice_index number 0) (alone_first number t) in
    rw (blanks_skipped blanks number h no_blank, blanks_end blanks number h no_blank) refl
left_after_sign Minus symbol blanks number t h =
    let no_blank = number_no_blank (slice_index number 0) (alone_first number t) in
    rw (blanks_skipped blanks number h no_blank, blanks_end blanks number h no_blank) refl

-- what stands at the front of a number with its sign
signed_first : (sign : Sign) (inner number : List ℕ) → NumberText number → WritesSign sign inner
    → (is_of_class Blank (slice_index (inner ++ number) 0) ≡ false)
    × (is_of_class Symbol (slice_index (inner ++ number) 0) ≡ false)
signed_first Absent inner number t h =
    rw h (
      number_no_blank (slice_index number 0) (alone_first number t),
      number_no_symbol (slice_index number 0) (alone_first number t),
    )
signed_first Plus inner number t h = rw h.1.1 (refl, refl)
signed_first Minus inner number t h = rw h.1.1 (refl, refl)

-- a symbol on the left, and a sign after it
left_before_sign : (sign : Sign) (symbol blanks inner number : List ℕ) → NumberText number → IsBlanks blanks
    → WritesSign sign inner
    → left_number Absent symbol (blanks ++ (inner ++ number))
    ≡ record { sign = sign; left = true; spaced = not (length blanks == 0); symbol = symbol; number = number }
left_before_sign sign symbol blanks inner number t h s =
    let first = alone_first number t in
    let b = slice_index number 0 in
    let no_blank = (signed_first sign inner number t s).0 in
    let u = sign_cut sign inner number s (no_sign_of b (number_no_minus b first) (number_no_plus b first))
    (number_no_blank b first) in
    rw (
      blanks_skipped blanks (inner ++ number) h no_blank,
      blanks_end blanks (inner ++ number) h no_blank,
      u.rest_is,
      u.sign_is,
    ) refl

-- the parts are those of the side on which the symbol stands
parts_on_left : (text body : List ℕ) (sign : Sign) → Unsigns sign text body → BeginsSymbol body
    → amount_parts text ≡ left_parts sign body
unfolding amount_parts
parts_on_left text body sign u b = rw (u.rest_is, u.sign_is, b.first) refl

parts_on_right : (text body : List ℕ) (sign : Sign) → Unsigns sign text body
    → is_of_class Number (slice_index body 0) ≡ true → amount_parts text ≡ right_parts sign body
unfolding amount_parts
parts_on_right text body sign u h =
    let b = slice_index body 0 in
    rw (u.rest_is, u.sign_is, number_no_symbol b h, number_no_quote b h) refl

left_parts_is : (sign : Sign) (symbol written rest : List ℕ) (parts : Parts) → WritesSymbol symbol written
    → EndsClass Symbol rest → left_number sign symbol rest ≡ parts → left_parts sign (written ++ rest) ≡ Some parts
unfolding left_parts
left_parts_is sign symbol written rest parts w ends e =
    rw (symbol_cut symbol written rest w ends) (ap (λ (p : Parts). Some p) e)

-- parts are what they are made of
left_of : (parts : Parts) (spaced : Bool) → parts.left ≡ true → parts.spaced ≡ spaced
    → record { sign = parts.sign; left = true; spaced = spaced; symbol = parts.symbol; number = parts.number } ≡ parts
left_of parts spaced l s = rw (← l, ← s) refl

right_of : (parts : Parts) (spaced : Bool) → parts.left ≡ false → parts.spaced ≡ spaced
    → record { sign = parts.sign; left = false; spaced = spaced; symbol = parts.symbol; number = parts.number } ≡ parts
right_of parts spaced l s = rw (← l, ← s) refl

left_cut : (text : List ℕ) (parts : Parts) → NumberText parts.number → IsLeftAmount text parts
    → amount_parts text ≡ Some parts
left_cut text parts t a =
    let first = alone_first parts.number t in
    let byte = slice_index parts.number 0 in
    elim a.signed [
      | inl before ↦
          let rest = a.blanks ++ parts.number in
          let b = symbol_begins parts.symbol a.symbol rest a.symbolic in
          let u = sign_cut parts.sign a.outer (a.symbol ++ rest) before.0 b.no_sign b.no_blank in
          let ends =
          ends_at_blanks Symbol a.blanks parts.number blank_no_symbol a.between (number_no_symbol byte first) in
          let whole : text ≡ a.outer ++ (a.symbol ++ rest) = rw before.1 at a.whole in
          let number = left_after_sign parts.sign parts.symbol a.blanks parts.number t a.between ∙ left_of parts
          (not (length a.blanks == 0)) a.left a.spaced in
          rw whole (parts_on_left (a.outer ++ (a.symbol ++ rest)) (a.symbol ++ rest) parts.sign u b ∙ left_parts_is
          parts.sign parts.symbol a.symbol rest parts a.symbolic ends number)
      | inr behind ↦
          let signed = a.inner ++ parts.number in
          let rest = a.blanks ++ signed in
          let b = symbol_begins parts.symbol a.symbol rest a.symbolic in
          let u = sign_cut Absent [] (a.symbol ++ rest) refl b.no_sign b.no_blank in
          let ends = ends_at_blanks Symbol a.blanks signed blank_no_symbol a.between
          (signed_first parts.sign a.inner parts.number t behind.1).1 in
          let whole : text ≡ a.symbol ++ rest = rw behind.0 at a.whole in
          let number = left_before_sign parts.sign parts.symbol a.blanks a.inner parts.number t a.between behind.1 ∙
          left_of parts (not (length a.blanks == 0)) a.left a.spaced in
          rw whole (parts_on_left (a.symbol ++ rest) (a.symbol ++ rest) Absent u b ∙ left_parts_is Absent parts.symbol
          a.symbol rest parts a.symbolic ends number)
    ]

-- a symbol that ends the text
symbol_alone : (symbol written : List ℕ) → WritesSymbol symbol written
    → cut_symbol written ≡ Some (record { symbol = symbol; rest = [] })
symbol_alone symbol written w = ap cut_symbol (sym (append-nil written)) ∙ symbol_cut symbol written [] w tt

begins_alone : (symbol written : List ℕ) → WritesSymbol symbol written → BeginsSymbol written
begins_alone symbol written w = subst BeginsSymbol (append-nil written) (symbol_begins symbol written [] w)

right_symbol_is : (sign : Sign) (number symbol blanks written : List ℕ) → WritesSymbol symbol written → IsBlanks blanks
    → right_symbol sign number (blanks ++ written)
    ≡ Some (record { sign = sign; left = false; spaced = not (length blanks == 0); symbol = symbol; number = number })
unfolding right_symbol
right_symbol_is sign number symbol blanks written w h =
    let no_blank = (begins_alone symbol written w).no_blank in
    rw (blanks_skipped blanks written h no_blank, blanks_end blanks written h no_blank, symbol_alone symbol written w)
    refl

right_parts_is : (sign : Sign) (number rest : List ℕ) → NumberText number → EndsClass Number rest
    → right_parts sign (number ++ rest) ≡ right_symbol sign number rest
right_parts_is sign number rest t ends =
    rw (
      class_end Number number rest t.bytes ends,
      take-append_seam number rest,
      drop_at number rest (length number) refl,
    ) refl

right_cut : (text : List ℕ) (parts : Parts) → NumberText parts.number → IsRightAmount text parts
    → amount_parts text ≡ Some parts
right_cut text parts t a =
    let rest = a.blanks ++ a.symbol in
    let body = parts.number ++ rest in
    let first = first_number parts.number rest t in
    let byte = slice_index body 0 in
    let u = sign_cut parts.sign a.outer body a.signed
    (no_sign_of byte (number_no_minus byte first) (number_no_plus byte first)) (number_no_blank byte first) in
    let ends = ends_at_blanks Number a.blanks a.symbol blank_no_number a.between
    (begins_alone parts.symbol a.symbol a.symbolic).no_number in
    let made = ap (λ (p : Parts). Some p) (right_of parts (not (length a.blanks == 0)) a.left a.spaced) in
    rw a.whole (parts_on_right (a.outer ++ body) body parts.sign u first ∙
    (right_parts_is parts.sign parts.number rest t ends
    ∙ (right_symbol_is parts.sign parts.number parts.symbol a.blanks a.symbol a.symbolic a.between ∙ made)))

-- An amount is cut so, and only so.
pub amount_cut : (mark : Mark) (text : List ℕ) (parts : Parts) → IsAmount mark text parts
    → amount_parts text ≡ Some parts
amount_cut mark text parts a =
    let t = number_text mark parts.number a.number in
    elim a.form [ inl left ↦ left_cut text parts t left | inr right ↦ right_cut text parts t right ]

-- after a symbol on the left that has a sign before it
left_unsigned : (text outer written rest symbol : List ℕ) (sign : Sign) → text ≡ outer ++ (written ++ rest)
    → WritesSign sign outer → WritesSymbol symbol written
    → IsLeftAmount text (record {
      sign = sign;
      left = true;
      spaced = not (end_of Blank rest == 0);
      symbol = symbol;
      number = skip_blanks rest;
    })
left_unsigned text outer written rest symbol sign whole signed w = record {
  outer = outer;
  symbol = written;
  blanks = take (end_of Blank rest) rest;
  inner = [];
  whole = whole ∙ ap (λ (xs : List ℕ). outer ++ (written ++ xs)) (blanks_front rest);
  signed = inl (signed, refl);
  symbolic = w;
  between = front_passes Blank rest;
  spaced = ap (λ (n : ℕ). not (n == 0)) (sym (front_length Blank rest));
  left = refl;
}

-- after the symbol on the left
left_amount : (text outer written rest symbol : List ℕ) (sign : Sign) → text ≡ outer ++ (written ++ rest)
    → WritesSign sign outer → WritesSymbol symbol written → IsLeftAmount text (left_number sign symbol rest)
left_amount text outer written rest symbol Absent whole signed w =
    let front = sign_front (skip_blanks rest) in
    let blanks = take (end_of Blank rest) rest in
    let split : rest ≡ blanks ++ (front.written ++ unsigned (skip_blanks rest)) =
    blanks_front rest ∙ ap (λ (xs : List ℕ). blanks ++ xs) front.whole in
    record {
      outer = [];
      symbol = written;
      blanks = blanks;
      inner = front.written;
      whole =
          whole ∙ (ap (λ (xs : List ℕ). xs ++ (written ++ rest)) signed ∙ ap (λ (xs : List ℕ). written ++ xs) split);
      signed = inr (refl, front.writes);
      symbolic = w;
      between = front_passes Blank rest;
      spaced = ap (λ (n : ℕ). not (n == 0)) (sym (front_length Blank rest));
      left = refl;
    }
left_amount text outer written rest symbol Plus whole signed w =
    left_unsigned text outer written rest symbol Plus whole signed w
left_amount text outer written rest symbol Minus whole signed w =
    left_unsigned text outer written rest symbol Minus whole signed w

left_back : (text : List ℕ) (parts : Parts) → left_parts (sign_of (slice_index text 0)) (unsigned text) ≡ Some parts
    → IsLeftAmount text parts
unfolding left_parts
left_back text parts h = go (cut_symbol (unsigned text)) refl h
  where
    sign : Sign
    sign = sign_of (slice_index text 0)

    go : (o : Option Cut) → cut_symbol (unsigned text) ≡ o
        → option_and_then (λ cut. Some (left_number sign cut.symbol cut.rest)) o ≡ Some parts → IsLeftAmount text parts
    go None e k = absurd cc
    go (Some cut) e k =
        let front = symbol_front (unsigned text) cut e in
        let before = sign_front text in
        let whole : text ≡ before.written ++ (front.written ++ cut.rest) =
        before.whole ∙ ap (λ (xs : List ℕ). before.written ++ xs) front.whole in
        subst (IsLeftAmount text) (same_Some (left_number sign cut.symbol cut.rest) parts k)
        (left_amount text before.written front.written cut.rest cut.symbol sign whole before.writes front.writes)

right_back : (text : List ℕ) (parts : Parts) → right_parts (sign_of (slice_index text 0)) (unsigned text) ≡ Some parts
    → IsRightAmount text parts
unfolding right_symbol
right_back text parts h = go (cut_symbol (skip_blanks rest)) refl h
  where
    sign : Sign
    sign = sign_of (slice_index text 0)

    number : List ℕ
    number = take (end_of Number (unsigned text)) (unsigned text)

    rest : List ℕ
    rest = drop (end_of Number (unsigned text)) (unsigned text)

    of_cut : Cut → Parts
    of_cut cut = record {
      sign = sign;
      left = false;
      spaced = not (end_of Blank rest == 0);
      symbol = cut.symbol;
      number = number;
    }

    go : (o : Option Cut) → cut_symbol (skip_blanks rest) ≡ o
        → option_and_then (λ cut. cond (length cut.rest == 0) (Some (of_cut cut)) None) o ≡ Some parts
        → IsRightAmount text parts
    go None e k = absurd cc
    go (Some cut) e k =
        let t = Some_only_if_true (length cut.rest == 0) (of_cut cut) parts k in
        let front = symbol_front (skip_blanks rest) cut e in
        let before = sign_front text in
        let blanks = take (end_of Blank rest) rest in
        let symbol : skip_blanks rest ≡ front.written =
        front.whole ∙
        (ap (λ (xs : List ℕ). front.written ++ xs) (nil_from_empty cut.rest t.0) ∙ append-nil front.written) in
        let behind : rest ≡ blanks ++ front.written = blanks_front rest ∙ ap (λ (xs : List ℕ). blanks ++ xs) symbol in
        let body : unsigned text ≡ number ++ (blanks ++ front.written) =
        front_whole Number (unsigned text) ∙ ap (λ (xs : List ℕ). number ++ xs) behind in
        subst (IsRightAmount text) t.1 (record {
          outer = before.written;
          blanks = blanks;
          symbol = front.written;
          whole = before.whole ∙ ap (λ (xs : List ℕ). before.written ++ xs) body;
          signed = before.writes;
          symbolic = front.writes;
          between = front_passes Blank rest;
          spaced = ap (λ (n : ℕ). not (n == 0)) (sym (front_length Blank rest));
          left = refl;
        })

-- What is cut is an amount, where its number is one.
pub cut_amount : (mark : Mark) (text : List ℕ) (parts : Parts) → amount_parts text ≡ Some parts
    → is_number mark parts.number ≡ true → IsAmount mark text parts
unfolding amount_parts
cut_amount mark text parts h n =
    let b = slice_index (unsigned text) 0 in
    let sign = sign_of (slice_index text 0) in
    record {
      number = n;
      form = elim (cases_Bool (is_of_class Symbol b || (b == 34))) [
        | inl left ↦ inl (left_back text parts
            (sym (cond-true (is_of_class Symbol b || (b == 34)) (left_parts sign (unsigned text))
            (right_parts sign (unsigned text)) left) ∙ h))
        | inr right ↦ inr (right_back text parts
            (sym (cond-false (is_of_class Symbol b || (b == 34)) (left_parts sign (unsigned text))
            (right_parts sign (unsigned text)) right) ∙ h))
      ];
    }
