-- What an amount is as a text (hledger manual, "Amounts"; that a symbol is needed, and that there is one sign, are own
-- rules).
use Rattle.std.specs.Prelude.{◌≡◌, ℕ, ℤ, pos, neg_ℤ, ◌≤◌, ◌<◌, ◌==◌, List, [], ◌∷◌, ◌++◌, length, position, slice_get}
use Rattle.std.specs.Prelude.{Bool, true, false, not, ◌⊎◌, Option, Some, None}
use Rattle.std.specs.Str.{bytes_eq}
use Rattle.money_core.specs.declared.mark.Mark.{Mark}
use Rattle.money_core.specs.declared.amount.Sign.{Sign}
use Rattle.money_core.specs.declared.amount.Sign.TheVariants.{Absent, Plus, Minus}
use Rattle.money_core.specs.declared.style.Style.{Style}
use Rattle.money_core.specs.Blank.{IsBlanks}
use Rattle.money_core.specs.Symbol.{WritesSymbol}
use Rattle.money_core.specs.Number.{is_number, fraction_part, fits_decimals, quantity}

-- the parts of an amount: its sign, on which side the symbol stands, whether blanks stand between symbol and number,
-- and these two
pub record Parts : Type 0 where
  pub sign : Sign
  pub left : Bool
  pub spaced : Bool
  pub symbol : List ℕ
  pub number : List ℕ

-- this is how a sign is written: blanks may follow it
abbrev pub WritesSign : Sign → List ℕ → Type 0
WritesSign Absent written = written ≡ []
WritesSign Plus written = (blanks : List ℕ) × (IsBlanks blanks × (written ≡ 43 ∷ blanks))
WritesSign Minus written = (blanks : List ℕ) × (IsBlanks blanks × (written ≡ 45 ∷ blanks))

-- the symbol on the left: a sign before it or before the number
pub record IsLeftAmount (text : List ℕ) (parts : Parts) : Type 0 where
  pub outer : List ℕ
  pub symbol : List ℕ
  pub blanks : List ℕ
  pub inner : List ℕ
  pub whole : text ≡ outer ++ (symbol ++ (blanks ++ (inner ++ parts.number)))
  pub signed : (WritesSign parts.sign outer × (inner ≡ [])) ⊎ ((outer ≡ []) × WritesSign parts.sign inner)
  pub symbolic : WritesSymbol parts.symbol symbol
  pub between : IsBlanks blanks
  pub spaced : parts.spaced ≡ not (length blanks == 0)
  pub left : parts.left ≡ true

-- the symbol on the right: a sign before the number
pub record IsRightAmount (text : List ℕ) (parts : Parts) : Type 0 where
  pub outer : List ℕ
  pub blanks : List ℕ
  pub symbol : List ℕ
  pub whole : text ≡ outer ++ (parts.number ++ (blanks ++ symbol))
  pub signed : WritesSign parts.sign outer
  pub symbolic : WritesSymbol parts.symbol symbol
  pub between : IsBlanks blanks
  pub spaced : parts.spaced ≡ not (length blanks == 0)
  pub left : parts.left ≡ false

-- the text is an amount of these parts, its number written with that decimal mark
pub record IsAmount (mark : Mark) (text : List ℕ) (parts : Parts) : Type 0 where
  pub number : is_number mark parts.number ≡ true
  pub form : IsLeftAmount text parts ⊎ IsRightAmount text parts

-- the greatest quantity that a text may write, in smallest units
abbrev pub limit : ℕ
limit = 10_000_000_000_000_000

-- a quantity with its sign
abbrev pub with_sign : Sign → ℕ → ℤ
with_sign Absent n = pos n
with_sign Plus n = pos n
with_sign Minus n = neg_ℤ (pos n)

-- where a symbol stands among the declared styles, from 0
abbrev pub place_of : List Style → List ℕ → Option ℕ
place_of styles symbol = position (λ style. bytes_eq style.symbol symbol) styles

-- the text is an amount of so many smallest units of the commodity at that place
pub record WritesAmount (styles : List Style) (text : List ℕ) (place : ℕ) (units : ℤ) : Type 0 where
  pub parts : Parts
  pub style : Style
  pub declared : place_of styles parts.symbol ≡ Some place
  pub its_style : slice_get styles place ≡ Some style
  pub amount : IsAmount style.mark text parts
  pub exact : fits_decimals style.decimals (fraction_part style.mark parts.number) ≡ true
  pub small : quantity style.mark style.decimals parts.number ≤ limit
  pub value : units ≡ with_sign parts.sign (quantity style.mark style.decimals parts.number)

-- The text has the form of an amount of these parts: with the decimal mark of its symbol's style, or with either mark
-- where the symbol is not declared.
pub record HasForm (styles : List Style) (text : List ℕ) (parts : Parts) : Type 0 where
  pub mark : Mark
  pub amount : IsAmount mark text parts
  pub its_mark : (place : ℕ) (style : Style) → place_of styles parts.symbol ≡ Some place
      → slice_get styles place ≡ Some style → mark ≡ style.mark

-- the text has not the form of an amount
abbrev pub HasNoForm : List Style → List ℕ → Type 0
HasNoForm styles text = (parts : Parts) → ¬ HasForm styles text parts

-- the text has the form of an amount, of a symbol that is not declared
pub record NamesUndeclared (styles : List Style) (text : List ℕ) : Type 0 where
  pub parts : Parts
  pub form : HasForm styles text parts
  pub undeclared : place_of styles parts.symbol ≡ None

-- the text is an amount of a declared commodity, with further decimals that are not all zeros
pub record HasFurtherDecimals (styles : List Style) (text : List ℕ) : Type 0 where
  pub parts : Parts
  pub place : ℕ
  pub style : Style
  pub declared : place_of styles parts.symbol ≡ Some place
  pub its_style : slice_get styles place ≡ Some style
  pub amount : IsAmount style.mark text parts
  pub further : fits_decimals style.decimals (fraction_part style.mark parts.number) ≡ false

-- the text is an amount of a declared commodity, of a quantity that is too great
pub record IsOverLimit (styles : List Style) (text : List ℕ) : Type 0 where
  pub parts : Parts
  pub place : ℕ
  pub style : Style
  pub declared : place_of styles parts.symbol ≡ Some place
  pub its_style : slice_get styles place ≡ Some style
  pub amount : IsAmount style.mark text parts
  pub exact : fits_decimals style.decimals (fraction_part style.mark parts.number) ≡ true
  pub great : limit < quantity style.mark style.decimals parts.number
