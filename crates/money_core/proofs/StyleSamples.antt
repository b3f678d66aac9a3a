-- Each style has a sample: a zero in it, with the symbol in quotes.
use Rattle.std.proofs.Common.{◌≡◌, ◌↔◌, ◌⊎◌, ◌++◌, ◌==◌, ℕ, zero, suc, List, [], ◌∷◌, Bool, true, false, cond, length}
use Rattle.std.proofs.Common.{replicate, arith, refl, ◌∙◌, sym, inl, inr, lit<, IsTrue}
use Rattle.std.proofs.lemmas.Bool.{cases_Bool, and_parts, or_right, eq-eqb, leb-true}
use Rattle.std.proofs.lemmas.List.Folds.{list_any-append}
use Rattle.std.proofs.Math.Seq.{drop-append-add}
use Rattle.std.proofs.lemmas.List.{length-replicate}
use Rattle.std.specs.List.{list_all, list_any}
use Rattle.std.specs.Char.{is_ascii_digit}
use Rattle.std.specs.Str.Parse.{digits_value_after}
use Rattle.money_core.specs.declared.mark.Mark.{Mark}
use Rattle.money_core.specs.declared.mark.Mark.TheVariants.{Point, Comma}
use Rattle.money_core.specs.declared.amount.Sign.TheVariants.{Absent}
use Rattle.money_core.specs.declared.style.Style.{Style}
use Rattle.money_core.specs.Mark.{decimal_byte, group_byte}
use Rattle.money_core.specs.Number.{fraction_part}
use Rattle.money_core.specs.NumberText.{WritesQuantity}
use Rattle.money_core.specs.Symbol.{is_symbol, in_quotes}
use Rattle.money_core.specs.Amount.{Parts, IsLeftAmount, IsRightAmount}
use Rattle.money_core.specs.AmountText.{gap}
use Rattle.money_core.specs.Style.{is_style, IsSample}
use Rattle.money_core.proofs.AmountParts.{gap_blanks, gap_seen}
use Rattle.money_core.proofs.RoundTrip.{before_mark, ReadsAs, reads_with_mark}
use Rattle.money_core.proofs.SampleLemmas.{sample_style}

-- a zero, in groups or not
zero_whole : Mark → Bool → List ℕ
zero_whole mark true = 48 ∷ group_byte mark ∷ 48 ∷ []
zero_whole mark false = 48 ∷ []

zero_reads : (mark : Mark) (grouped : Bool) → ReadsAs (group_byte mark) (decimal_byte mark) 0 (zero_whole mark grouped)
unfolding zero_whole
zero_reads Point true = record { groups = refl; some = lit< tt; unmarked = refl; value = refl }
zero_reads Point false = record { groups = refl; some = lit< tt; unmarked = refl; value = refl }
zero_reads Comma true = record { groups = refl; some = lit< tt; unmarked = refl; value = refl }
zero_reads Comma false = record { groups = refl; some = lit< tt; unmarked = refl; value = refl }

-- and its decimals
pub zeros_digits : (n : ℕ) → list_all is_ascii_digit (replicate n 48) ≡ true
zeros_digits zero = refl
zeros_digits (suc n) = zeros_digits n

zeros_value : (n : ℕ) → digits_value_after 10 0 (replicate n 48) ≡ 0
zeros_value zero = refl
zeros_value (suc n) = zeros_value n

pub zeros_no_mark : (mark : Mark) (n : ℕ) → list_any (λ b. b == group_byte mark) (replicate n 48) ≡ false
zeros_no_mark mark zero = refl
zeros_no_mark Point (suc n) = zeros_no_mark Point n
zeros_no_mark Comma (suc n) = zeros_no_mark Comma n

zero_number : Mark → Bool → ℕ → List ℕ
zero_number mark grouped decimals = zero_whole mark grouped ++ decimal_byte mark ∷ replicate decimals 48

zero_writes : (mark : Mark) (grouped : Bool) (decimals : ℕ)
    → WritesQuantity mark decimals 0 (zero_number mark grouped decimals)
unfolding zero_number
zero_writes mark grouped decimals =
    reads_with_mark mark decimals 0 0 (zero_whole mark grouped) (replicate decimals 48) (zero_reads mark grouped)
    (zeros_digits decimals) (length-replicate decimals 48) (zeros_value decimals)

zero_fraction : (mark : Mark) (grouped : Bool) (decimals : ℕ)
    → decimals ≡ length (fraction_part mark (zero_number mark grouped decimals))
unfolding zero_number
zero_fraction mark grouped decimals =
    let whole = zero_whole mark grouped in
    let at = before_mark (λ b. b == decimal_byte mark) whole (replicate decimals 48) (decimal_byte mark)
    (zero_reads mark grouped).unmarked (eq-eqb (decimal_byte mark) (decimal_byte mark) refl) in
    rw (at, drop-append-add whole (decimal_byte mark ∷ replicate decimals 48) 1) (sym (length-replicate decimals 48))

zero_shows : (mark : Mark) (grouped : Bool) (decimals : ℕ)
    → list_any (λ b. b == decimal_byte mark) (zero_number mark grouped decimals) ≡ true
unfolding zero_number
zero_shows mark grouped decimals =
    rw (
      list_any-append (λ b. b == decimal_byte mark) (zero_whole mark grouped)
          (decimal_byte mark ∷ replicate decimals 48),
      eq-eqb (decimal_byte mark) (decimal_byte mark) refl,
    )
    (or_right _ true refl)

zero_grouped : (mark : Mark) (grouped : Bool) (decimals : ℕ)
    → grouped ≡ list_any (λ b. b == group_byte mark) (zero_number mark grouped decimals)
unfolding zero_number zero_whole
zero_grouped Point true decimals = refl
zero_grouped Comma true decimals = refl
zero_grouped Point false decimals = sym (zeros_no_mark Point decimals)
zero_grouped Comma false decimals = sym (zeros_no_mark Comma decimals)

zero_parts : Style → Parts
zero_parts style = record {
  sign = Absent;
  left = style.left;
  spaced = style.spaced;
  symbol = style.symbol;
  number = zero_number style.mark style.grouped style.decimals;
}

-- the sample on its side
zero_text : Style → List ℕ
zero_text style =
    cond style.left (in_quotes style.symbol
    ++ (gap style.spaced ++ zero_number style.mark style.grouped style.decimals))
    (zero_number style.mark style.grouped style.decimals ++ (gap style.spaced ++ in_quotes style.symbol))

zero_form : (style : Style) → is_symbol style.symbol ≡ true
    → IsLeftAmount (zero_text style) (zero_parts style) ⊎ IsRightAmount (zero_text style) (zero_parts style)
unfolding zero_text zero_parts
zero_form style h =
    elim (cases_Bool style.left) [
      | inl left ↦ inl (record {
        outer = [];
        symbol = in_quotes style.symbol;
        blanks = gap style.spaced;
        inner = [];
        whole = rw left refl;
        signed = inl (refl, refl);
        symbolic = inr (h, refl);
        between = gap_blanks style.spaced;
        spaced = gap_seen style.spaced;
        left = left;
      })
      | inr right ↦ inr (record {
        outer = [];
        blanks = gap style.spaced;
        symbol = in_quotes style.symbol;
        whole = rw right refl;
        signed = refl;
        symbolic = inr (h, refl);
        between = gap_blanks style.spaced;
        spaced = gap_seen style.spaced;
        left = right;
      })
    ]

zero_sample : (style : Style) → is_style style ≡ true → IsSample (zero_text style) style
unfolding zero_parts
zero_sample style h =
    let both = and_parts (is_symbol style.symbol) _ h in
    let writes = zero_writes style.mark style.grouped style.decimals in
    record {
      parts = zero_parts style;
      amount = record { number = writes.form; form = zero_form style both.0 };
      unsigned = refl;
      shows = zero_shows style.mark style.grouped style.decimals;
      symbol = refl;
      left = refl;
      spaced = refl;
      decimals = zero_fraction style.mark style.grouped style.decimals;
      grouped = zero_grouped style.mark style.grouped style.decimals;
      few = leb-true style.decimals 6 both.1;
      small = rw writes.value (omega arith);
    }

-- A style is one that a sample has.
pub is_style_iff : (style : Style) (r : Bool) → r ≡ is_style style → IsTrue r ↔ ((text : List ℕ) × IsSample text style)
is_style_iff style r e = (λ t. (zero_text style, zero_sample style (sym e ∙ t)), λ s. e ∙ sample_style s.0 style s.1)
