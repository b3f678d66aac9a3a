-- Which styles there are, and what a sample amount spells (hledger manual, "Commodity display style"; the sample's
-- decimal mark is an own rule).
use Rattle.std.specs.Prelude.{◌≡◌, ◌≤◌, ℕ, ◌==◌, nat_le, List, [], ◌∷◌, ◌++◌, length, slice_get, Bool, true, false}
use Rattle.std.specs.Prelude.{◌&&◌, not, if◌then◌else◌, Option, Some, None, Result, Ok, Err}
use Rattle.std.specs.List.{list_any}
use Rattle.std.specs.Str.{bytes_eq}
use Rattle.money_core.specs.declared.mark.Mark.{Mark}
use Rattle.money_core.specs.declared.mark.Mark.TheVariants.{Point, Comma}
use Rattle.money_core.specs.declared.amount.Sign.TheVariants.{Absent}
use Rattle.money_core.specs.declared.style.Style.{Style}
use Rattle.std.specs.Option.{option_map}
use Rattle.money_core.specs.declared.unit.Unit.{Unit as Commodity}
use Rattle.money_core.specs.declared.unit.Declared.{Declared}
use Rattle.money_core.specs.declared.unit.Declared.TheVariants.{New, Same}
use Rattle.money_core.specs.declared.cause.Cause.{Cause}
use Rattle.money_core.specs.declared.cause.Cause.TheVariants.{CommodityExists, Full}
use Rattle.money_core.specs.Mark.{decimal_byte, group_byte}
use Rattle.money_core.specs.Number.{fraction_part, quantity}
use Rattle.money_core.specs.Symbol.{is_symbol}
use Rattle.money_core.specs.Amount.{Parts, IsAmount, limit, place_of}

-- the greatest number of decimals of a commodity
abbrev pub max_decimals : ℕ
max_decimals = 6

-- the greatest number of commodities
abbrev pub max_commodities : ℕ
max_commodities = 16

-- a symbol, and not too many decimals
abbrev pub is_style : Style → Bool
is_style style = is_symbol style.symbol && nat_le style.decimals max_decimals

-- The text is a sample amount of the style: an amount without sign whose number shows its decimal mark, which is then
-- its last mark and stands there once.
pub record IsSample (text : List ℕ) (style : Style) : Type 0 where
  pub parts : Parts
  pub amount : IsAmount style.mark text parts
  pub unsigned : parts.sign ≡ Absent
  pub shows : list_any (λ b. b == decimal_byte style.mark) parts.number ≡ true
  pub symbol : style.symbol ≡ parts.symbol
  pub left : style.left ≡ parts.left
  pub spaced : style.spaced ≡ parts.spaced
  pub decimals : style.decimals ≡ length (fraction_part style.mark parts.number)
  pub grouped : style.grouped ≡ list_any (λ b. b == group_byte style.mark) parts.number
  pub few : style.decimals ≤ max_decimals
  pub small : quantity style.mark style.decimals parts.number ≤ limit

-- Each style is one that a sample has, and the one that its symbol finds; there are not too many.
pub record AreStyles (styles : List Style) : Type 0 where
  pub each : (i : ℕ) (style : Style) → slice_get styles i ≡ Some style → is_style style ≡ true
  pub found : (i : ℕ) (style : Style) → slice_get styles i ≡ Some style → place_of styles style.symbol ≡ Some i
  pub few : length styles ≤ max_commodities

-- the commodity of a symbol
abbrev pub unit_of : List Style → List ℕ → Option Commodity
unit_of styles symbol = option_map (λ place. record { 0 = place }) (place_of styles symbol)

-- whether two truth values are the same
abbrev pub bool_eq : Bool → Bool → Bool
bool_eq true b = b
bool_eq false b = not b

-- whether two decimal marks are the same
abbrev pub mark_eq : Mark → Mark → Bool
mark_eq Point Point = true
mark_eq Comma Comma = true
mark_eq Point Comma = false
mark_eq Comma Point = false

-- whether two styles are the same
abbrev pub style_eq : Style → Style → Bool
style_eq s t =
    bytes_eq s.symbol t.symbol && mark_eq s.mark t.mark && (s.decimals == t.decimals) && bool_eq s.left t.left
    && bool_eq s.spaced t.spaced && bool_eq s.grouped t.grouped

-- the answer where the symbol is declared with this style
abbrev pub declared_with : Style → ℕ → Option Style → Result Declared Cause
declared_with style place None = Err Full
declared_with style place (Some held) =
    if style_eq held style then Ok (Same (record { 0 = place })) else Err CommodityExists

-- the answer to a declaration, once its symbol was looked up
abbrev pub declared_at : List Style → Style → Option ℕ → Result Declared Cause
declared_at styles style (Some place) = declared_with style place (slice_get styles place)
declared_at styles style None =
    if nat_le max_commodities (length styles) then Err Full else Ok (New (record { 0 = length styles }))

-- the answer to a declaration: an equal style, another style of the symbol, no room, or a new commodity with the next
-- number
unfoldable pub declared : List Style → Style → Result Declared Cause
declared styles style = declared_at styles style (place_of styles style.symbol)

-- the styles after it
abbrev pub styles_after : List Style → Style → Result Declared Cause → List Style
styles_after styles style (Ok (New unit)) = styles ++ style ∷ []
styles_after styles style (Ok (Same unit)) = styles
styles_after styles style (Err cause) = styles
