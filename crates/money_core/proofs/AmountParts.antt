-- A printed amount is an amount of the parts that it was printed from.
use Rattle.std.proofs.Common.{◌≡◌, ◌≤◌, ◌++◌, ◌==◌, ℕ, ℤ, pos, negsuc, [], Bool, true, false, not, length, arith, refl}
use Rattle.std.proofs.Common.{◌∙◌, append_assoc, Some, inl, inr}
use Rattle.std.proofs.lemmas.Bool.{cases_Bool, cond-true, cond-false}
use Rattle.std.specs.Prelude.{unsigned_abs}
use Rattle.money_core.specs.declared.amount.Sign.{Sign}
use Rattle.money_core.specs.declared.amount.Sign.TheVariants.{Absent, Minus}
use Rattle.money_core.specs.declared.style.Style.{Style}
use Rattle.money_core.specs.Blank.{IsBlanks}
use Rattle.money_core.specs.Symbol.{is_symbol}
use Rattle.money_core.specs.Amount.{Parts, WritesSign, IsAmount, limit}
use Rattle.money_core.specs.Cutting.{amount_parts}
use Rattle.money_core.specs.Printed.{printed_number}
use Rattle.money_core.specs.AmountText.{printed_symbol, minus, gap, printed_with}
use Rattle.money_core.proofs.RoundTrip.{printed_reads}
use Rattle.money_core.proofs.GrammarLemmas.{amount_cut}
use Rattle.money_core.proofs.SymbolText.{printed_symbol_writes}

-- the sign of a printed quantity
abbrev pub sign_printed : ℤ → Sign
sign_printed (pos n) = Absent
sign_printed (negsuc n) = Minus

-- the parts of a printed quantity
abbrev pub parts_printed : Style → ℕ → ℤ → Parts
parts_printed style decimals q =
    record {
      sign = sign_printed q;
      left = style.left;
      spaced = style.spaced;
      symbol = style.symbol;
      number = printed_number style.mark style.grouped decimals (unsigned_abs q);
    }

minus_writes : (q : ℤ) → WritesSign (sign_printed q) (minus q)
minus_writes (pos n) = refl
minus_writes (negsuc n) = ([], (refl, refl))

pub gap_blanks : (spaced : Bool) → IsBlanks (gap spaced)
gap_blanks true = refl
gap_blanks false = refl

pub gap_seen : (spaced : Bool) → spaced ≡ not (length (gap spaced) == 0)
gap_seen true = refl
gap_seen false = refl

-- A printed amount is an amount.
pub printed_is_amount : (style : Style) (decimals : ℕ) (q : ℤ) → is_symbol style.symbol ≡ true → unsigned_abs q ≤ limit
    → IsAmount style.mark (printed_with style decimals q) (parts_printed style decimals q)
unfolding printed_with
printed_is_amount style decimals q ok l =
    let number = printed_number style.mark style.grouped decimals (unsigned_abs q) in
    let symbol = printed_symbol style.symbol in
    let writes = printed_reads style.mark style.grouped decimals (unsigned_abs q) (omega arith) in
    elim (cases_Bool style.left) [
      | inl left ↦ record {
        number = writes.form;
        form = inl (record {
          outer = [];
          symbol = symbol;
          blanks = gap style.spaced;
          inner = minus q;
          whole = cond-true style.left _ _ left;
          signed = inr (refl, minus_writes q);
          symbolic = printed_symbol_writes style.symbol ok;
          between = gap_blanks style.spaced;
          spaced = gap_seen style.spaced;
          left = left;
        });
      }
      | inr right ↦ record {
        number = writes.form;
        form = inr (record {
          outer = minus q;
          blanks = gap style.spaced;
          symbol = symbol;
          whole = cond-false style.left _ _ right ∙ append_assoc (minus q) number (gap style.spaced ++ symbol);
          signed = minus_writes q;
          symbolic = printed_symbol_writes style.symbol ok;
          between = gap_blanks style.spaced;
          spaced = gap_seen style.spaced;
          left = right;
        });
      }
    ]

-- so it is cut into these parts
pub printed_parts : (style : Style) (decimals : ℕ) (q : ℤ) → is_symbol style.symbol ≡ true → unsigned_abs q ≤ limit
    → amount_parts (printed_with style decimals q) ≡ Some (parts_printed style decimals q)
printed_parts style decimals q ok l =
    amount_cut style.mark (printed_with style decimals q) (parts_printed style decimals q)
    (printed_is_amount style decimals q ok l)
