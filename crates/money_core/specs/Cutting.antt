-- How an amount is cut into its parts from the left; that these are the parts of `Amount`, and the only ones, stands
-- behind the clauses of `read_amount`.
use Rattle.std.specs.Prelude.{ℕ, ◌==◌, List, length, take, drop, slice_index, nat_lt, Bool, true, false, ◌&&◌, ◌||◌}
use Rattle.std.specs.Prelude.{not, if◌then◌else◌, Option, Some, None, option_and_then}
use Rattle.std.specs.List.{position_or_len, before_first, after_first}
use Rattle.money_core.specs.declared.class.Class.{Class}
use Rattle.money_core.specs.declared.class.Class.TheVariants.{Blank, Symbol, Number}
use Rattle.money_core.specs.declared.amount.Sign.{Sign}
use Rattle.money_core.specs.declared.amount.Sign.TheVariants.{Absent, Plus, Minus}
use Rattle.money_core.specs.Class.{is_of_class}
use Rattle.money_core.specs.Symbol.{is_bare, is_symbol}
use Rattle.money_core.specs.Amount.{Parts}

-- where the longest front of that class ends
abbrev pub end_of : Class → List ℕ → ℕ
end_of class text = position_or_len (λ b. not (is_of_class class b)) text

-- the text after the blanks at its front
abbrev pub skip_blanks : List ℕ → List ℕ
skip_blanks text = drop (end_of Blank text) text

-- a symbol and what follows it
pub record Cut : Type 0 where
  pub symbol : List ℕ
  pub rest : List ℕ

-- the text up to the closing quote, after the opening one
abbrev pub cut_quoted : List ℕ → Option Cut
cut_quoted text =
    if (nat_lt (position_or_len (λ b. b == 34) text) (length text)) && is_symbol (before_first (λ b. b == 34) text)
    then Some (record { symbol = before_first (λ b. b == 34) text; rest = after_first (λ b. b == 34) text }) else None

-- the longest front of a symbol's bytes
abbrev pub cut_bare : List ℕ → Option Cut
cut_bare text =
    if is_bare (take (end_of Symbol text) text)
    then Some (record { symbol = take (end_of Symbol text) text; rest = drop (end_of Symbol text) text }) else None

-- the symbol at the front, with its quotes or without
unfoldable pub cut_symbol : List ℕ → Option Cut
cut_symbol text = if slice_index text 0 == 34 then cut_quoted (drop 1 text) else cut_bare text

-- the symbol that a whole text is, with its quotes or without
unfoldable pub symbol_in_text : List ℕ → Option (List ℕ)
symbol_in_text text = option_and_then (λ cut. if length cut.rest == 0 then Some cut.symbol else None) (cut_symbol text)

-- the sign that a byte is
abbrev pub sign_of : ℕ → Sign
sign_of b = if b == 45 then Minus else if b == 43 then Plus else Absent

-- whether there is a sign
abbrev pub is_signed : Sign → Bool
is_signed Absent = false
is_signed Plus = true
is_signed Minus = true

-- the text after a sign and its blanks; the text where it begins with none
abbrev pub unsigned : List ℕ → List ℕ
unsigned text = if is_signed (sign_of (slice_index text 0)) then skip_blanks (drop 1 text) else text

-- after a symbol on the left: blanks, then a number, with a sign before it where none stood before the symbol
abbrev pub left_number : Sign → List ℕ → List ℕ → Parts
left_number sign symbol rest =
    if is_signed sign
    then record {
      sign = sign;
      left = true;
      spaced = not (end_of Blank rest == 0);
      symbol = symbol;
      number = skip_blanks rest;
    }
    else record {
      sign = sign_of (slice_index (skip_blanks rest) 0);
      left = true;
      spaced = not (end_of Blank rest == 0);
      symbol = symbol;
      number = unsigned (skip_blanks rest);
    }

-- a symbol, then a number
unfoldable pub left_parts : Sign → List ℕ → Option Parts
left_parts sign text = option_and_then (λ cut. Some (left_number sign cut.symbol cut.rest)) (cut_symbol text)

-- after a number: blanks, then a symbol
unfoldable pub right_symbol : Sign → List ℕ → List ℕ → Option Parts
right_symbol sign number rest = option_and_then (λ cut.
    if length cut.rest == 0
    then Some (record {
      sign = sign;
      left = false;
      spaced = not (end_of Blank rest == 0);
      symbol = cut.symbol;
      number = number;
    })
    else None)
    (cut_symbol (skip_blanks rest))

-- a number, then a symbol
abbrev pub right_parts : Sign → List ℕ → Option Parts
right_parts sign text = right_symbol sign (take (end_of Number text) text) (drop (end_of Number text) text)

-- the parts of an amount: an optional sign, and a symbol and a number on either side of each other
unfoldable pub amount_parts : List ℕ → Option Parts
amount_parts text =
    if is_of_class Symbol (slice_index (unsigned text) 0) || (slice_index (unsigned text) 0 == 34)
    then left_parts (sign_of (slice_index text 0)) (unsigned text)
    else right_parts (sign_of (slice_index text 0)) (unsigned text)
