-- What an amount is printed as (own rule), and what such a text has wherever it stands.
use Rattle.std.specs.Prelude.{◌≡◌, ℕ, ℤ, pos, negsuc, unsigned_abs, ◌-◌, ◌==◌, ◌≤◌, ◌<◌, List, [], ◌∷◌, ◌++◌, length}
use Rattle.std.specs.Prelude.{slice_get, slice_index, Bool, true, false, ◌&&◌, ◌||◌, not, if◌then◌else◌, Option, Some}
use Rattle.std.specs.Prelude.{None, Ok}
use Rattle.std.specs.Str.{is_utf8}
use Rattle.money_core.specs.declared.class.Class.TheVariants.{Symbol, Number}
use Rattle.money_core.specs.declared.style.Style.{Style}
use Rattle.money_core.specs.declared.unit.Unit.{Unit as Commodity}
use Rattle.money_core.specs.Blank.{is_blank}
use Rattle.money_core.specs.Class.{is_of_class}
use Rattle.money_core.specs.Symbol.{is_bare, is_quoted_byte, in_quotes}
use Rattle.money_core.specs.Amount.{limit}
use Rattle.money_core.specs.Printed.{printed_number}
use Rattle.money_core.specs.Reading.{amount}

-- a symbol, in quotes where it could not stand without
unfoldable pub printed_symbol : List ℕ → List ℕ
printed_symbol symbol = if is_bare symbol then symbol else in_quotes symbol

-- the sign of a quantity: none where it is not negative
abbrev pub minus : ℤ → List ℕ
minus (pos n) = []
minus (negsuc n) = 45 ∷ []

-- what stands between symbol and number
abbrev pub gap : Bool → List ℕ
gap spaced = if spaced then 32 ∷ [] else []

-- a number with its sign directly before it
abbrev pub printed_signed : Style → ℕ → ℤ → List ℕ
printed_signed style decimals q = minus q ++ printed_number style.mark style.grouped decimals (unsigned_abs q)

-- a quantity in units of so many decimals as an amount, the symbol on its side
unfoldable pub printed_with : Style → ℕ → ℤ → List ℕ
printed_with style decimals q =
    if style.left then printed_symbol style.symbol ++ (gap style.spaced ++ printed_signed style decimals q)
    else printed_signed style decimals q ++ (gap style.spaced ++ printed_symbol style.symbol)

-- a quantity in a style, if there is one
abbrev pub printed_of : Option Style → ℤ → List ℕ
printed_of None q = []
printed_of (Some style) q = printed_with style style.decimals q

-- a quantity of a commodity, in smallest units, as an amount
unfoldable pub printed_in : List Style → Commodity → ℤ → List ℕ
printed_in styles unit q = printed_of (slice_get styles unit.0) q

-- a byte of a printed amount outside quotes
abbrev pub is_amount_byte : ℕ → Bool
is_amount_byte b = is_of_class Symbol b || is_of_class Number b || (b == 45) || (b == 32)

-- Quotes are closed, and each byte is one of an amount, inside them or outside.
abbrev pub is_amount_text : Bool → List ℕ → Bool
is_amount_text quoted [] = not quoted
is_amount_text quoted (b ∷ bs) =
    if b == 34 then is_amount_text (not quoted) bs
    else (if quoted then is_quoted_byte b else is_amount_byte b) && is_amount_text quoted bs

-- the greatest length of a printed amount, in bytes
abbrev pub longest_amount : ℕ
longest_amount = 64

-- The text is that quantity of that commodity wherever it stands: it reads as it, is UTF-8, has only bytes of an
-- amount, no blank at an end, and is not too long.
pub record IsAmountText (styles : List Style) (unit : Commodity) (quantity : ℤ) (text : List ℕ) : Type 0 where
  pub reads : amount styles text ≡ Ok (unit, quantity)
  pub utf8 : is_utf8 text ≡ true
  pub form : is_amount_text false text ≡ true
  pub some : 0 < length text
  pub first : is_blank (slice_index text 0) ≡ false
  pub last : is_blank (slice_index text (length text - 1)) ≡ false
  pub short : length text ≤ longest_amount

-- a declared commodity, and a quantity within the limit
pub record IsDeclared (styles : List Style) (unit : Commodity) (quantity : ℤ) : Type 0 where
  pub known : unit.0 < length styles
  pub size : unsigned_abs quantity ≤ limit

-- Each amount of these styles is printed as a text that reads as it.
abbrev pub AmountsPrint : List Style → Type 0
AmountsPrint styles =
    (unit : Commodity) (quantity : ℤ) → IsDeclared styles unit quantity
    → IsAmountText styles unit quantity (printed_in styles unit quantity)

-- What is read is of a declared commodity and within the limit.
abbrev pub AmountsBound : List Style → Type 0
AmountsBound styles = (text : List ℕ) (unit : Commodity) (quantity : ℤ) → amount styles text ≡ Ok (unit, quantity)
    → IsDeclared styles unit quantity
