-- How the style of a sample is found; that it is the one of `IsSample` says the contract of `read_style`.
use Rattle.std.specs.Prelude.{ℕ, ◌==◌, nat_lt, List, length, Bool, ◌&&◌, if◌then◌else◌, Option, Some, None}
use Rattle.std.specs.List.{list_any}
use Rattle.money_core.specs.declared.mark.Mark.{Mark}
use Rattle.money_core.specs.declared.mark.Mark.TheVariants.{Point, Comma}
use Rattle.money_core.specs.declared.style.Style.{Style}
use Rattle.money_core.specs.Mark.{decimal_byte, group_byte}
use Rattle.money_core.specs.Number.{is_number, fraction_part, quantity}
use Rattle.money_core.specs.Amount.{Parts, limit}
use Rattle.money_core.specs.Style.{max_decimals}
use Rattle.money_core.specs.Cutting.{is_signed, amount_parts}

-- whether it is a number with that decimal mark, which it shows
abbrev pub shows : Mark → List ℕ → Bool
shows mark number = is_number mark number && list_any (λ b. b == decimal_byte mark) number

-- the decimal mark that a number shows
unfoldable pub shown_mark : List ℕ → Option Mark
shown_mark number = if shows Point number then Some Point else if shows Comma number then Some Comma else None

-- the style of these parts
abbrev pub style_with : Parts → Mark → Style
style_with parts mark = record {
  symbol = parts.symbol;
  left = parts.left;
  spaced = parts.spaced;
  mark = mark;
  decimals = length (fraction_part mark parts.number);
  grouped = list_any (λ b. b == group_byte mark) parts.number;
}

-- the style, once the decimal mark was looked for: its decimals and its quantity within their limits
abbrev pub style_in : Parts → Option Mark → Option Style
style_in parts None = None
style_in parts (Some mark) =
    if nat_lt max_decimals (length (fraction_part mark parts.number)) then None
    else if nat_lt limit (quantity mark (length (fraction_part mark parts.number)) parts.number) then None
    else Some (style_with parts mark)

-- the style of the parts of an amount
unfoldable pub style_of_parts : Option Parts → Option Style
style_of_parts None = None
style_of_parts (Some parts) = if is_signed parts.sign then None else style_in parts (shown_mark parts.number)

-- the style that a text spells
abbrev pub style_of : List ℕ → Option Style
style_of text = style_of_parts (amount_parts text)
