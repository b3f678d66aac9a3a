-- Which quantity of which commodity a text is, or its first fault: the form, the commodity, the decimals, the size (own
-- order).
use Rattle.std.specs.Prelude.{ℕ, ℤ, nat_lt, List, slice_get, ◌||◌, not, if◌then◌else◌, Option, Some, None, Result, Ok}
use Rattle.std.specs.Prelude.{Err}
use Rattle.money_core.specs.declared.mark.Mark.TheVariants.{Point, Comma}
use Rattle.money_core.specs.declared.amount.Sign.{Sign}
use Rattle.money_core.specs.declared.style.Style.{Style}
use Rattle.money_core.specs.declared.unit.Unit.{Unit as Commodity}
use Rattle.money_core.specs.declared.cause.Cause.{Cause}
use Rattle.money_core.specs.declared.cause.Cause.TheVariants.{Amount, UnknownCommodity, Decimals}
use Rattle.money_core.specs.Amount.{Parts, limit, with_sign, place_of}
use Rattle.money_core.specs.Cutting.{amount_parts}
use Rattle.money_core.specs.Number.{is_number, fraction_part, fits_decimals, quantity}

-- the quantity that a number writes in a style: first its form, then its decimals, then its size
unfoldable pub quantity_in : Style → Sign → List ℕ → Result ℤ Cause
quantity_in style sign number =
    if not (is_number style.mark number) then Err Amount
    else if not (fits_decimals style.decimals (fraction_part style.mark number)) then Err Decimals
    else if nat_lt limit (quantity style.mark style.decimals number) then Err Amount
    else Ok (with_sign sign (quantity style.mark style.decimals number))

-- the commodity at a place, with a quantity
abbrev pub with_unit : ℕ → Result ℤ Cause → Result (Commodity × ℤ) Cause
with_unit place (Ok units) = Ok (record { 0 = place }, units)
with_unit place (Err cause) = Err cause

-- the fault where the symbol is not declared: the form's, where the number has its form with neither mark
abbrev pub undeclared : List ℕ → Cause
undeclared number = if is_number Point number || is_number Comma number then UnknownCommodity else Amount

-- the amount at a place among the declared styles
abbrev pub amount_in : Parts → ℕ → Option Style → Result (Commodity × ℤ) Cause
amount_in parts place None = Err Amount
amount_in parts place (Some style) = with_unit place (quantity_in style parts.sign parts.number)

-- the amount, once its symbol was looked up
abbrev pub amount_at : List Style → Parts → Option ℕ → Result (Commodity × ℤ) Cause
amount_at styles parts None = Err (undeclared parts.number)
amount_at styles parts (Some place) = amount_in parts place (slice_get styles place)

-- the amount of these parts
unfoldable pub amount_of_parts : List Style → Option Parts → Result (Commodity × ℤ) Cause
amount_of_parts styles None = Err Amount
amount_of_parts styles (Some parts) = amount_at styles parts (place_of styles parts.symbol)

-- what a text is under declared styles
abbrev pub amount : List Style → List ℕ → Result (Commodity × ℤ) Cause
amount styles text = amount_of_parts styles (amount_parts text)
