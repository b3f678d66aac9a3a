-- the canonical sample of a style is a sample of it
use Rattle.std.proofs.Common.{◌≡◌, ◌⊎◌, ◌++◌, ◌==◌, ◌≤◌, ℕ, zero, suc, List, [], ◌∷◌, Bool, true, false, length}
use Rattle.std.proofs.Common.{replicate, arith, refl, ap, ◌∙◌, sym, subst, inl, inr, lit<, Option, Some, None}
use Rattle.std.specs.Prelude.{◌↔◌, is_some, slice_get, decimal, option_map}
use Rattle.std.proofs.lemmas.Bool.{cases_Bool, and_parts, or_right, eq-eqb, leb-true, cond-true, cond-false}
use Rattle.std.proofs.lemmas.List.Folds.{list_any-append}
use Rattle.std.proofs.Math.Seq.{drop-append-add}
use Rattle.std.specs.List.{list_all, list_any}
use Rattle.std.specs.Str.Parse.{digits_value_after}
use Rattle.money_core.specs.declared.mark.Mark.{Mark}
use Rattle.money_core.specs.declared.mark.Mark.TheVariants.{Point, Comma}
use Rattle.money_core.specs.declared.amount.Sign.TheVariants.{Absent}
use Rattle.money_core.specs.declared.style.Style.{Style}
use Rattle.money_core.specs.Mark.{decimal_byte, group_byte}
use Rattle.money_core.specs.Number.{fraction_part}
use Rattle.money_core.specs.NumberText.{WritesQuantity}
use Rattle.money_core.specs.Symbol.{is_symbol, is_bare, is_quoted_byte, in_quotes}
use Rattle.money_core.specs.Symbol.{WritesSymbol}
use Rattle.money_core.specs.Printed.{printed_whole, grouped, places}
use Rattle.money_core.specs.Amount.{Parts, IsLeftAmount, IsRightAmount, limit}
use Rattle.money_core.specs.AmountText.{gap, printed_symbol}
use Rattle.money_core.specs.Style.{is_style, IsSample, AreStyles}
use Rattle.money_core.proofs.AmountParts.{gap_blanks, gap_seen}
use Rattle.money_core.proofs.RoundTrip.{ReadsAs, before_mark, whole_reads, reads_with_mark}
use Rattle.std.proofs.lemmas.Fmt.{decimal_digit, decimal_step}
use Rattle.std.proofs.lemmas.List.{length-replicate}
use Rattle.money_core.proofs.SymbolText.{symbol_facts, printed_symbol_writes}
use Rattle.money_core.proofs.StyleSamples.{zeros_digits, zeros_no_mark}
use Rattle.treasury_reports.specs.CommoditiesReport.{thousand, sample_number, sample_text, AreSamples}

-- ---- a thousand
decimal_1 : decimal 1 ≡ 49 ∷ []
decimal_1 = decimal_digit 1 (lit< tt)

decimal_1000 : decimal 1000 ≡ 49 ∷ 48 ∷ 48 ∷ 48 ∷ []
decimal_1000 =
    let ten : decimal 10 ≡ 49 ∷ 48 ∷ [] =
    decimal_step 10 (omega arith) (lit< tt) ∙ ap (λ (l : List ℕ). l ++ 48 ∷ []) decimal_1 in
    let hundred : decimal 100 ≡ 49 ∷ 48 ∷ 48 ∷ [] =
    decimal_step 100 (omega arith) (lit< tt) ∙ ap (λ (l : List ℕ). l ++ 48 ∷ []) ten in
    decimal_step 1000 (omega arith) (lit< tt) ∙ ap (λ (l : List ℕ). l ++ 48 ∷ []) hundred

thousand_is : (mark : Mark) (groups : Bool) → printed_whole mark groups 1000 ≡ thousand mark groups
unfolding grouped places
thousand_is Point true = ap (λ (l : List ℕ). l ++ 44 ∷ 48 ∷ 48 ∷ 48 ∷ []) decimal_1
thousand_is Point false = decimal_1000
thousand_is Comma true = ap (λ (l : List ℕ). l ++ 46 ∷ 48 ∷ 48 ∷ 48 ∷ []) decimal_1
thousand_is Comma false = decimal_1000

-- ---- its decimals

abbrev value_of : ℕ → ℕ
value_of decimals = digits_value_after 10 1000 (replicate decimals 48)

small_value : (d : ℕ) → d ≤ 6 → value_of d ≤ limit
small_value zero h = let e : value_of 0 ≡ 1000 = refl in omega (arith, e)
small_value (suc zero) h = let e : value_of 1 ≡ 10000 = refl in omega (arith, e)
small_value (suc (suc zero)) h = let e : value_of 2 ≡ 100000 = refl in omega (arith, e)
small_value (suc (suc (suc zero))) h = let e : value_of 3 ≡ 1000000 = refl in omega (arith, e)
small_value (suc (suc (suc (suc zero)))) h = let e : value_of 4 ≡ 10000000 = refl in omega (arith, e)
small_value (suc (suc (suc (suc (suc zero))))) h = let e : value_of 5 ≡ 100000000 = refl in omega (arith, e)
small_value (suc (suc (suc (suc (suc (suc zero)))))) h = let e : value_of 6 ≡ 1000000000 = refl in omega (arith, e)
small_value (suc (suc (suc (suc (suc (suc (suc d))))))) h = absurd (omega (arith, h))

-- ---- the number
number_of : Mark → Bool → ℕ → List ℕ
number_of mark groups decimals = thousand mark groups ++ decimal_byte mark ∷ replicate decimals 48

thousand_reads : (mark : Mark) (groups : Bool)
    → ReadsAs (group_byte mark) (decimal_byte mark) 1000 (thousand mark groups)
thousand_reads mark groups =
    subst (ReadsAs (group_byte mark) (decimal_byte mark) 1000) (thousand_is mark groups)
    (whole_reads mark groups 1000 (lit< tt))

number_of_writes : (mark : Mark) (groups : Bool) (decimals : ℕ)
    → WritesQuantity mark decimals (value_of decimals) (number_of mark groups decimals)
unfolding number_of
number_of_writes mark groups decimals =
    reads_with_mark mark decimals 1000 (value_of decimals) (thousand mark groups) (replicate decimals 48)
    (thousand_reads mark groups) (zeros_digits decimals) (length-replicate decimals 48) refl

decimals_of_number : (mark : Mark) (groups : Bool) (decimals : ℕ)
    → decimals ≡ length (fraction_part mark (number_of mark groups decimals))
unfolding number_of
decimals_of_number mark groups decimals =
    let whole = thousand mark groups in
    let at = before_mark (λ b. b == decimal_byte mark) whole (replicate decimals 48) (decimal_byte mark)
    (thousand_reads mark groups).unmarked (eq-eqb (decimal_byte mark) (decimal_byte mark) refl) in
    rw (at, drop-append-add whole (decimal_byte mark ∷ replicate decimals 48) 1) (sym (length-replicate decimals 48))

number_shows_mark : (mark : Mark) (groups : Bool) (decimals : ℕ)
    → list_any (λ b. b == decimal_byte mark) (number_of mark groups decimals) ≡ true
unfolding number_of
number_shows_mark mark groups decimals =
    rw (
      list_any-append (λ b. b == decimal_byte mark) (thousand mark groups) (decimal_byte mark ∷ replicate decimals 48),
      eq-eqb (decimal_byte mark) (decimal_byte mark) refl,
    )
    (or_right _ true refl)

in_groups : (mark : Mark) (groups : Bool) (decimals : ℕ)
    → groups ≡ list_any (λ b. b == group_byte mark) (number_of mark groups decimals)
unfolding number_of
in_groups Point true decimals = refl
in_groups Comma true decimals = refl
in_groups Point false decimals = sym (zeros_no_mark Point decimals)
in_groups Comma false decimals = sym (zeros_no_mark Comma decimals)

-- ---- the sample
parts_of : Style → Parts
parts_of style = record {
  sign = Absent;
  left = style.left;
  spaced = style.spaced;
  symbol = style.symbol;
  number = number_of style.mark style.grouped style.decimals;
}

sample_text_form : (style : Style) → is_symbol style.symbol ≡ true
    → IsLeftAmount (sample_text style) (parts_of style) ⊎ IsRightAmount (sample_text style) (parts_of style)
unfolding sample_text sample_number parts_of number_of
sample_text_form style h =
    elim (cases_Bool style.left) [
      | inl left ↦ inl (record {
        outer = [];
        symbol = printed_symbol style.symbol;
        blanks = gap style.spaced;
        inner = [];
        whole = cond-true style.left _ _ left;
        signed = inl (refl, refl);
        symbolic = printed_symbol_writes style.symbol h;
        between = gap_blanks style.spaced;
        spaced = gap_seen style.spaced;
        left = left;
      })
      | inr right ↦ inr (record {
        outer = [];
        blanks = gap style.spaced;
        symbol = printed_symbol style.symbol;
        whole = cond-false style.left _ _ right;
        signed = refl;
        symbolic = printed_symbol_writes style.symbol h;
        between = gap_blanks style.spaced;
        spaced = gap_seen style.spaced;
        left = right;
      })
    ]

sample_text_is_sample : (style : Style) → is_style style ≡ true → IsSample (sample_text style) style
unfolding parts_of
sample_text_is_sample style h =
    let both = and_parts (is_symbol style.symbol) _ h in
    let written = number_of_writes style.mark style.grouped style.decimals in
    let few = leb-true style.decimals 6 both.1 in
    record {
      parts = parts_of style;
      amount = record { number = written.form; form = sample_text_form style both.0 };
      unsigned = refl;
      shows = number_shows_mark style.mark style.grouped style.decimals;
      symbol = refl;
      left = refl;
      spaced = refl;
      decimals = decimals_of_number style.mark style.grouped style.decimals;
      grouped = in_groups style.mark style.grouped style.decimals;
      few = few;
      small = rw written.value (small_value style.decimals few);
    }

pub are_samples : (styles : List Style) → AreStyles styles → AreSamples styles
are_samples styles h i s e = sample_text_is_sample s (h.each i s e)

pub symbol_at : (styles : List Style) (i : ℕ) (s : Style) → AreStyles styles → slice_get styles i ≡ Some s
    → is_symbol s.symbol ≡ true
symbol_at styles i s h e = (and_parts (is_symbol s.symbol) _ (h.each i s e)).0

-- ---- a symbol that reads as one is bare
no_quotes : (symbol s : List ℕ) → is_symbol symbol ≡ true → symbol ≡ in_quotes s → ⊥
no_quotes symbol s h e =
    let bytes : list_all is_quoted_byte symbol ≡ true = (symbol_facts symbol h).bytes in
    let wrong : false ≡ true = sym (ap (λ (t : List ℕ). list_all is_quoted_byte t) e) ∙ bytes in
    cc

pub reads_bare : (symbol : List ℕ) (o : Option (List ℕ)) → is_symbol symbol ≡ true
    → ((s : List ℕ) → (o ≡ Some s) ↔ WritesSymbol s symbol) → is_some o ≡ is_bare symbol
reads_bare symbol (Some s) h k =
    elim ((k s).0 refl) [
      | inl bare ↦ sym (ap is_bare bare.1 ∙ bare.0)
      | inr quoted ↦ absurd (no_quotes symbol s h quoted.1)
    ]
reads_bare symbol None h k =
    elim (cases_Bool (is_bare symbol)) [
      | inl bare ↦ absurd (let wrong = (k symbol).1 (inl (bare, refl)) in cc)
      | inr quoted ↦ sym quoted
    ]

pub some_mapped : {X Y : Type 0} (f : X → Y) (o : Option X) → is_some o ≡ is_some (option_map f o)
some_mapped f (Some x) = refl
some_mapped f None = refl
