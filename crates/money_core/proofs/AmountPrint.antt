-- Printed amounts read as themselves, wherever they stand, and what is read can be printed. Proofs of crates above may
-- cite `amounts_print`, `amounts_bound` and `amount_bytes`.
use Rattle.std.proofs.Common.{◌≡◌, ◌≤◌, ◌<◌, ◌+◌, ◌-◌, ◌^◌, ◌++◌, ◌==◌, ℕ, ℤ, pos, negsuc, zero, suc, List, [], ◌∷◌}
use Rattle.std.proofs.Common.{Bool, true, false, cond, not, ◌&&◌, length, slice_index, arith, refl, ap, ◌∙◌, sym, subst}
use Rattle.std.proofs.Common.{Option, Some, None, Result, Ok, Err, lit<, inl, inr, length-append, nat_lt}
use Rattle.std.proofs.lemmas.Grind.{common_steps}
use Rattle.std.proofs.lemmas.Bool.{cases_Bool, and_parts, and_from, le-ltb, ltb-false, leb-true, eqb-true, cond-true}
use Rattle.std.proofs.lemmas.Bool.{cond-false}
use Rattle.std.specs.List.{list_all, slice_get}
use Rattle.std.specs.Str.{is_utf8}
use Rattle.std.specs.Prelude.{unsigned_abs}
use Rattle.std.proofs.lemmas.List.{get_or-append-add}
use Rattle.std.proofs.lemmas.List.Sums.{AllPass-from_list_all}
use Rattle.money_core.specs.declared.class.Class.TheVariants.{Blank, Symbol, Number}
use Rattle.money_core.specs.declared.amount.Sign.{Sign}
use Rattle.money_core.specs.declared.amount.Sign.TheVariants.{Absent, Plus, Minus}
use Rattle.money_core.specs.declared.style.Style.{Style}
use Rattle.money_core.specs.declared.unit.Unit.{Unit as Commodity}
use Rattle.money_core.specs.declared.cause.Cause.{Cause}
use Rattle.money_core.specs.declared.cause.Cause.TheVariants.{Amount, Decimals}
use Rattle.money_core.specs.Class.{is_of_class}
use Rattle.money_core.specs.Number.{is_number, fits_decimals, fraction_part, quantity}
use Rattle.money_core.specs.Printed.{printed_number}
use Rattle.money_core.specs.Symbol.{is_short_symbol, is_bare, is_symbol, is_quoted_byte}
use Rattle.money_core.specs.Amount.{Parts, limit, with_sign, place_of}
use Rattle.money_core.specs.Cutting.{amount_parts}
use Rattle.money_core.specs.Reading.{quantity_in, with_unit, amount_in, amount_at, amount_of_parts, amount}
use Rattle.money_core.specs.Style.{AreStyles}
use Rattle.money_core.specs.AmountText.{printed_symbol, minus, gap, printed_with, printed_in, is_amount_byte}
use Rattle.money_core.specs.AmountText.{is_amount_text, IsDeclared, AmountsPrint, AmountsBound}
use Rattle.money_core.proofs.RoundTrip.{printed_reads}
use Rattle.money_core.proofs.ClassLemmas.{all_weaker, symbol_no_blank, number_no_blank}
use Rattle.money_core.proofs.NumberLength.{number_length}
use Rattle.money_core.proofs.GrammarLemmas.{NumberText, number_text, first_number, quoted_no_quote, symbol_begins}
use Rattle.money_core.proofs.SymbolText.{symbol_facts, bare_facts, short_some, printed_symbol_writes}
use Rattle.money_core.proofs.Utf8Lemmas.{utf8_joined, number_utf8, minus_utf8, gap_utf8, printed_symbol_utf8}
use Rattle.money_core.proofs.AmountParts.{sign_printed, printed_parts}

-- the quantity that is read
signed_back : (q : ℤ) → with_sign (sign_printed q) (unsigned_abs q) ≡ q
signed_back (pos n) = refl
signed_back (negsuc n) = refl

-- A printed amount reads as its quantity.
pub amount_reads : (styles : List Style) (i : ℕ) (style : Style) (q : ℤ) → AreStyles styles
    → slice_get styles i ≡ Some style → unsigned_abs q ≤ limit
    → amount styles (printed_with style style.decimals q) ≡ Ok (record { 0 = i }, q)
unfolding amount_of_parts quantity_in
amount_reads styles i style q ok at l =
    let n = unsigned_abs q in
    let small : n < 2 ^ 64 = omega arith in
    let symbolic = (and_parts (is_symbol style.symbol) _ (ok.each i style at)).0 in
    let writes = printed_reads style.mark style.grouped style.decimals n small in
    rw (
      printed_parts style style.decimals q symbolic l,
      ok.found i style at,
      at,
      writes.form,
      writes.decimals_fit,
      writes.value,
      le-ltb limit n l,
      signed_back q,
    ) refl

-- texts of amounts joined
text_joined : (quoted : Bool) (xs ys : List ℕ) → is_amount_text quoted xs ≡ true → is_amount_text false ys ≡ true
    → is_amount_text quoted (xs ++ ys) ≡ true
text_joined true [] ys h k = absurd cc
text_joined false [] ys h k = k
text_joined true (b ∷ xs) ys h k =
    elim (cases_Bool (b == 34)) [
      | inl mark ↦ let r : is_amount_text false xs ≡ true =
          sym (cond-true (b == 34) (is_amount_text false xs) (is_quoted_byte b && is_amount_text true xs) mark) ∙ h in
          cond-true (b == 34) _ _ mark ∙ text_joined false xs ys r k
      | inr other ↦
          let r : (is_quoted_byte b && is_amount_text true xs) ≡ true =
          sym (cond-false (b == 34) (is_amount_text false xs) (is_quoted_byte b && is_amount_text true xs) other) ∙
          h in
          let parts = and_parts (is_quoted_byte b) _ r in
          cond-false (b == 34) _ _ other ∙ and_from _ _ parts.0 (text_joined true xs ys parts.1 k)
    ]
text_joined false (b ∷ xs) ys h k =
    elim (cases_Bool (b == 34)) [
      | inl mark ↦ let r : is_amount_text true xs ≡ true =
          sym (cond-true (b == 34) (is_amount_text true xs) (is_amount_byte b && is_amount_text false xs) mark) ∙ h in
          cond-true (b == 34) _ _ mark ∙ text_joined true xs ys r k
      | inr other ↦
          let r : (is_amount_byte b && is_amount_text false xs) ≡ true =
          sym (cond-false (b == 34) (is_amount_text true xs) (is_amount_byte b && is_amount_text false xs) other) ∙
          h in
          let parts = and_parts (is_amount_byte b) _ r in
          cond-false (b == 34) _ _ other ∙ and_from _ _ parts.0 (text_joined false xs ys parts.1 k)
    ]

-- what holds of the quote and of each byte that an amount may have, holds of each byte of its text
pub amount_bytes : (p : ℕ → Bool) (quoted : Bool) (xs : List ℕ) → p 34 ≡ true
    → ((b : ℕ) → is_quoted_byte b ≡ true → p b ≡ true) → ((b : ℕ) → is_amount_byte b ≡ true → p b ≡ true)
    → is_amount_text quoted xs ≡ true → list_all p xs ≡ true
amount_bytes p quoted [] m f g h = refl
amount_bytes p true (b ∷ xs) m f g h =
    elim (cases_Bool (b == 34)) [
      | inl mark ↦ let r : is_amount_text false xs ≡ true =
          sym (cond-true (b == 34) (is_amount_text false xs) (is_quoted_byte b && is_amount_text true xs) mark) ∙ h in
          let same : b ≡ 34 = omega (arith, eqb-true b 34 mark) in
          and_from _ _ (ap p same ∙ m) (amount_bytes p false xs m f g r)
      | inr other ↦
          let r : (is_quoted_byte b && is_amount_text true xs) ≡ true =
          sym (cond-false (b == 34) (is_amount_text false xs) (is_quoted_byte b && is_amount_text true xs) other) ∙
          h in
          let parts = and_parts (is_quoted_byte b) _ r in
          and_from _ _ (f b parts.0) (amount_bytes p true xs m f g parts.1)
    ]
amount_bytes p false (b ∷ xs) m f g h =
    elim (cases_Bool (b == 34)) [
      | inl mark ↦ let r : is_amount_text true xs ≡ true =
          sym (cond-true (b == 34) (is_amount_text true xs) (is_amount_byte b && is_amount_text false xs) mark) ∙ h in
          let same : b ≡ 34 = omega (arith, eqb-true b 34 mark) in
          and_from _ _ (ap p same ∙ m) (amount_bytes p true xs m f g r)
      | inr other ↦
          let r : (is_amount_byte b && is_amount_text false xs) ≡ true =
          sym (cond-false (b == 34) (is_amount_text true xs) (is_amount_byte b && is_amount_text false xs) other) ∙
          h in
          let parts = and_parts (is_amount_byte b) _ r in
          and_from _ _ (g b parts.0) (amount_bytes p false xs m f g parts.1)
    ]

amount_byte_no_quote : (b : ℕ) → is_amount_byte b ≡ true → (b == 34) ≡ false
amount_byte_no_quote b h = grind (arith, common_steps)

bare_text : (xs : List ℕ) → list_all is_amount_byte xs ≡ true → is_amount_text false xs ≡ true
bare_text [] h = refl
bare_text (b ∷ xs) h =
    let parts = and_parts (is_amount_byte b) _ h in
    cond-false (b == 34) _ _ (amount_byte_no_quote b parts.0) ∙ and_from _ _ parts.0 (bare_text xs parts.1)

quoted_text : (xs : List ℕ) → list_all is_quoted_byte xs ≡ true → is_amount_text true (xs ++ 34 ∷ []) ≡ true
quoted_text [] h = refl
quoted_text (b ∷ xs) h =
    let parts = and_parts (is_quoted_byte b) _ h in
    cond-false (b == 34) _ _ (quoted_no_quote b parts.0) ∙ and_from _ _ parts.0 (quoted_text xs parts.1)

symbol_amount : (b : ℕ) → is_of_class Symbol b ≡ true → is_amount_byte b ≡ true
symbol_amount b h = grind (arith, common_steps)

number_amount : (b : ℕ) → is_of_class Number b ≡ true → is_amount_byte b ≡ true
number_amount b h = grind (arith, common_steps)

symbol_text : (symbol : List ℕ) → list_all is_quoted_byte symbol ≡ true
    → is_amount_text false (printed_symbol symbol) ≡ true
unfolding printed_symbol
symbol_text symbol plain =
    elim (cases_Bool (is_bare symbol)) [
      | inl bare ↦ rw bare (bare_text symbol
          (all_weaker (is_of_class Symbol) is_amount_byte symbol symbol_amount (bare_facts symbol bare).bytes))
      | inr quoted ↦ rw quoted (quoted_text symbol plain)
    ]

signed_text : (q : ℤ) (number : List ℕ) → NumberText number → is_amount_text false (minus q ++ number) ≡ true
signed_text (pos n) number t =
    bare_text number (all_weaker (is_of_class Number) is_amount_byte number number_amount t.bytes)
signed_text (negsuc n) number t =
    bare_text number (all_weaker (is_of_class Number) is_amount_byte number number_amount t.bytes)

gap_text : (spaced : Bool) → is_amount_text false (gap spaced) ≡ true
gap_text true = refl
gap_text false = refl

pub last_of : (xs ys : List ℕ) → 0 < length ys
    → slice_index (xs ++ ys) (length (xs ++ ys) - 1) ≡ slice_index ys (length ys - 1)
last_of xs ys some =
    let n : length (xs ++ ys) - 1 ≡ length xs + (length ys - 1) = omega (arith, length-append xs ys) in
    ap (λ (k : ℕ). slice_index (xs ++ ys) k) n ∙ get_or-append-add xs ys (length ys - 1) 0

-- the last byte of a list that passes and is not empty
last_passes : (p : ℕ → Bool) (xs : List ℕ) → list_all p xs ≡ true → 0 < length xs
    → p (slice_index xs (length xs - 1)) ≡ true
last_passes p xs h l = AllPass-from_list_all p xs h (length xs - 1) 0 (omega (arith, l))

-- what is known of a printed symbol as a text
record SymbolEnds (text : List ℕ) : Type 0 where
  some : 0 < length text
  few : length text ≤ 26
  last : is_of_class Blank (slice_index text (length text - 1)) ≡ false

symbol_ends : (symbol : List ℕ) → is_short_symbol symbol ≡ true → SymbolEnds (printed_symbol symbol)
unfolding printed_symbol
symbol_ends symbol h =
    let some = short_some symbol h in
    let few = leb-true (length symbol) 24 (and_parts (nat_lt 0 (length symbol)) _ h).1 in
    elim (cases_Bool (is_bare symbol)) [
      | inl bare ↦ rw bare (record {
        some = some;
        few = omega (arith, few);
        last = symbol_no_blank (slice_index symbol (length symbol - 1))
            (last_passes (is_of_class Symbol) symbol (bare_facts symbol bare).bytes some);
      })
      | inr quoted ↦ rw quoted (record {
        some = omega arith;
        few = omega (arith, few, length-append symbol (34 ∷ []));
        last = ap (is_of_class Blank) (last_of (34 ∷ symbol) (34 ∷ []) (lit< tt));
      })
    ]

minus_length : (q : ℤ) → length (minus q) ≤ 1
minus_length (pos n) = omega arith
minus_length (negsuc n) = omega arith

gap_length : (spaced : Bool) → length (gap spaced) ≤ 1
gap_length true = omega arith
gap_length false = omega arith

signed_first : (q : ℤ) (number rest : List ℕ) → NumberText number
    → is_of_class Blank (slice_index ((minus q ++ number) ++ rest) 0) ≡ false
signed_first (pos n) number rest t = number_no_blank (slice_index (number ++ rest) 0) (first_number number rest t)
signed_first (negsuc n) number rest t = refl

-- what is known of a printed amount as a text
pub record AmountEnds (decimals : ℕ) (text : List ℕ) : Type 0 where
  pub form : is_amount_text false text ≡ true
  pub utf8 : is_utf8 text ≡ true
  pub some : 0 < length text
  pub first : is_of_class Blank (slice_index text 0) ≡ false
  pub last : is_of_class Blank (slice_index text (length text - 1)) ≡ false
  pub short : length text ≤ decimals + 53

pub amount_ends : (style : Style) (decimals : ℕ) (q : ℤ) → is_symbol style.symbol ≡ true → unsigned_abs q ≤ limit
    → AmountEnds decimals (printed_with style decimals q)
unfolding printed_with
amount_ends style decimals q ok l =
    let n = unsigned_abs q in
    let facts = symbol_facts style.symbol ok in
    let number = printed_number style.mark style.grouped decimals n in
    let symbol = printed_symbol style.symbol in
    let g = gap style.spaced in
    let small : n < 2 ^ 64 = omega arith in
    let t = number_text style.mark number (printed_reads style.mark style.grouped decimals n small).form in
    let s = symbol_ends style.symbol facts.short in
    let word = printed_symbol_utf8 style.symbol ok in
    let between = gap_utf8 style.spaced in
    let signed = utf8_joined (minus q) number (minus_utf8 q) (number_utf8 number t.bytes) in
    let size = number_length style.mark style.grouped decimals n l in
    elim (cases_Bool style.left) [
      | inl left ↦ (let e : printed_with style decimals q ≡ symbol ++ (g ++ (minus q ++ number)) =
          cond-true style.left _ _ left in
          subst (AmountEnds decimals) (sym e) (record {
            utf8 = utf8_joined symbol _ word (utf8_joined g _ between signed);
            form = text_joined false symbol _ (symbol_text style.symbol facts.bytes)
                (text_joined false g _ (gap_text style.spaced) (signed_text q number t));
            some = omega (arith, s.some, length-append symbol (g ++ (minus q ++ number)));
            first = (symbol_begins style.symbol symbol (g ++ (minus q ++ number))
                (printed_symbol_writes style.symbol ok)).no_blank;
            last = ap (is_of_class Blank) (last_of symbol (g ++ (minus q ++ number))
                (omega (arith, t.some, length-append g (minus q ++ number), length-append (minus q) number)) ∙
                (last_of g (minus q ++ number) (omega (arith, t.some, length-append (minus q) number)) ∙ last_of
                (minus q) number t.some))
                ∙ number_no_blank (slice_index number (length number - 1))
                (last_passes (is_of_class Number) number t.bytes t.some);
            short = omega (
              arith,
              s.few,
              size,
              minus_length q,
              gap_length style.spaced,
              length-append symbol (g ++ (minus q ++ number)),
              length-append g (minus q ++ number),
              length-append (minus q) number,
            );
          }))
      | inr right ↦ (let e : printed_with style decimals q ≡ (minus q ++ number) ++ (g ++ symbol) =
          cond-false style.left _ _ right in
          subst (AmountEnds decimals) (sym e) (record {
            utf8 = utf8_joined (minus q ++ number) _ signed (utf8_joined g _ between word);
            form = text_joined false (minus q ++ number) _ (signed_text q number t)
                (text_joined false g _ (gap_text style.spaced) (symbol_text style.symbol facts.bytes));
            some = omega (arith, s.some, length-append (minus q ++ number) (g ++ symbol), length-append g symbol);
            first = signed_first q number (g ++ symbol) t;
            last = ap (is_of_class Blank) (last_of (minus q ++ number) (g ++ symbol)
                (omega (arith, s.some, length-append g symbol)) ∙ last_of g symbol s.some) ∙ s.last;
            short = omega (
              arith,
              s.few,
              size,
              minus_length q,
              gap_length style.spaced,
              length-append (minus q ++ number) (g ++ symbol),
              length-append g symbol,
              length-append (minus q) number,
            );
          }))
    ]

pub found_within : (styles : List Style) (i : ℕ) → i < length styles
    → (style : Style) × (slice_get styles i ≡ Some style)
found_within [] i h = absurd (omega arith)
found_within (x ∷ xs) zero h = (x, refl)
found_within (x ∷ xs) (suc i) h = found_within xs i (omega arith)

-- Each amount of declared commodities is printed as a text that reads as it.
pub amounts_print : (styles : List Style) → AreStyles styles → AmountsPrint styles
unfolding printed_in
amounts_print styles ok unit q d =
    let found = found_within styles unit.0 d.known in
    let style = found.0 in
    let parts = and_parts (is_symbol style.symbol) _ (ok.each unit.0 style found.1) in
    let ends = amount_ends style style.decimals q parts.0 d.size in
    rw found.1 (record {
      reads = amount_reads styles unit.0 style q ok found.1 d.size;
      utf8 = ends.utf8;
      form = ends.form;
      some = ends.some;
      first = ends.first;
      last = ends.last;
      short = omega (arith, ends.short, leb-true style.decimals 6 parts.1);
    })

pub past : {A E : Type 0} (b : Bool) (e : E) (r : Result A E) (x : A) → cond b (Err e) r ≡ Ok x
    → (b ≡ false) × (r ≡ Ok x)
past true e r x h = absurd cc
past false e r x h = (refl, h)

pub ok_same : {A E : Type 0} (r : Result A E) (x y : A) → r ≡ Ok x → r ≡ Ok y → x ≡ y
ok_same r x y h k = cc

sign_size : (sign : Sign) (n : ℕ) → unsigned_abs (with_sign sign n) ≡ n
sign_size Absent n = refl
sign_size Plus n = refl
sign_size Minus zero = refl
sign_size Minus (suc n) = refl

quantity_size : (style : Style) (sign : Sign) (number : List ℕ) (q : ℤ) → quantity_in style sign number ≡ Ok q
    → unsigned_abs q ≤ limit
unfolding quantity_in
quantity_size style sign number q h =
    let one = past (not (is_number style.mark number)) Amount _ q h in
    let two = past (not (fits_decimals style.decimals (fraction_part style.mark number))) Decimals _ q one.1 in
    let three = past (nat_lt limit (quantity style.mark style.decimals number)) Amount _ q two.1 in
    let same : with_sign sign (quantity style.mark style.decimals number) ≡ q =
    ok_same (Ok (with_sign sign (quantity style.mark style.decimals number)))
    (with_sign sign (quantity style.mark style.decimals number)) q refl three.1 in
    let size : unsigned_abs q ≡ quantity style.mark style.decimals number =
    ap unsigned_abs (sym same) ∙ sign_size sign (quantity style.mark style.decimals number) in
    omega (arith, size, ltb-false limit (quantity style.mark style.decimals number) three.0)

pub place_inside : (styles : List Style) (i : ℕ) (style : Style) → slice_get styles i ≡ Some style → i < length styles
place_inside [] i style h = absurd cc
place_inside (x ∷ xs) zero style h = omega arith
place_inside (x ∷ xs) (suc i) style h = omega (arith, place_inside xs i style h)

-- What is read is of a declared commodity and within the limit.
pub amounts_bound : (styles : List Style) → AmountsBound styles
unfolding amount_of_parts
amounts_bound styles text unit q h = of_some (amount_parts text) h
  where
    of_number : (i : ℕ) (style : Style) (sign : Sign) (number : List ℕ) (r : Result ℤ Cause)
        → slice_get styles i ≡ Some style → quantity_in style sign number ≡ r → with_unit i r ≡ Ok (unit, q)
        → IsDeclared styles unit q
    of_number i style sign number (Ok n) at e k =
        let here : Commodity = record { 0 = i } in
        let both : (here, n) ≡ (unit, q) = ok_same (Ok (here, n)) (here, n) (unit, q) refl k in
        let u : i ≡ unit.0 = ap (λ (p : Commodity × ℤ). p.0.0) both in
        let s : n ≡ q = ap (λ (p : Commodity × ℤ). p.1) both in
        record {
          known = subst (λ (x : ℕ). x < length styles) u (place_inside styles i style at);
          size = subst (λ (z : ℤ). unsigned_abs z ≤ limit) s (quantity_size style sign number n e);
        }
    of_number i style sign number (Err c) at e k = absurd cc

    of_style : (parts : Parts) (i : ℕ) (o : Option Style) → slice_get styles i ≡ o → amount_in parts i o ≡ Ok (unit, q)
        → IsDeclared styles unit q
    of_style parts i None e k = absurd cc
    of_style parts i (Some style) e k =
        of_number i style parts.sign parts.number (quantity_in style parts.sign parts.number) e refl k

    of_found : (parts : Parts) (o : Option ℕ) → amount_at styles parts o ≡ Ok (unit, q) → IsDeclared styles unit q
    of_found parts None k = absurd cc
    of_found parts (Some i) k = of_style parts i (slice_get styles i) refl k

    of_some : (o : Option Parts) → amount_of_parts styles o ≡ Ok (unit, q) → IsDeclared styles unit q
    of_some None k = absurd cc
    of_some (Some parts) k = of_found parts (place_of styles parts.symbol) k
