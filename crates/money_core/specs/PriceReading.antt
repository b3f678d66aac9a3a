-- Which price a text is, or its first fault: the form, the commodity, the value (own order).
use Rattle.std.specs.Prelude.{ℕ, ◌+◌, ◌==◌, nat_lt, max, List, [], ◌∷◌, drop, slice_index, slice_get, Bool, true, false}
use Rattle.std.specs.Prelude.{not, if◌then◌else◌, Option, Some, None, Result, Ok, Err}
use Rattle.std.specs.List.{list_all}
use Rattle.money_core.specs.declared.amount.Sign.{Sign}
use Rattle.money_core.specs.declared.style.Style.{Style}
use Rattle.money_core.specs.declared.price.Price.{Price}
use Rattle.money_core.specs.declared.price.Price.TheVariants.{Each, Total}
use Rattle.money_core.specs.declared.cause.Cause.{Cause}
use Rattle.money_core.specs.declared.cause.Cause.TheVariants.{Amount, Cost}
use Rattle.money_core.specs.Number.{is_number, fraction_part, fits_decimals, quantity}
use Rattle.money_core.specs.Amount.{Parts, limit, place_of}
use Rattle.money_core.specs.Cutting.{skip_blanks, amount_parts}
use Rattle.money_core.specs.Reading.{undeclared}
use Rattle.money_core.specs.Price.{unit_limit, max_cost_decimals, is_negative}

-- how many digits a fraction has up to the last that is not zero
abbrev pub significant : List ℕ → ℕ
significant [] = 0
significant (b ∷ bs) = if list_all (λ c. c == 48) (b ∷ bs) then 0 else significant bs + 1

-- the decimals that a unit cost is kept with: the declared ones, or those up to the last that is not zero
abbrev pub kept_decimals : Style → List ℕ → ℕ
kept_decimals style number = max style.decimals (significant (fraction_part style.mark number))

-- the cost of each unit: at most twelve decimals, at most 10^15 as a whole number, and not negative
unfoldable pub unit_cost : Style → ℕ → Sign → List ℕ → Result Price Cause
unit_cost style place sign number =
    if nat_lt max_cost_decimals (kept_decimals style number) then Err Cost
    else if nat_lt unit_limit (quantity style.mark (kept_decimals style number) number) then Err Cost
    else if is_negative sign (quantity style.mark (kept_decimals style number) number) then Err Cost
    else Ok (Each (record { 0 = place }) (quantity style.mark (kept_decimals style number) number)
    (kept_decimals style number))

-- the cost of the whole amount: no further decimals, at most 10^16 smallest units, and not negative
unfoldable pub total_cost : Style → ℕ → Sign → List ℕ → Result Price Cause
total_cost style place sign number =
    if not (fits_decimals style.decimals (fraction_part style.mark number)) then Err Cost
    else if nat_lt limit (quantity style.mark style.decimals number) then Err Cost
    else if is_negative sign (quantity style.mark style.decimals number) then Err Cost
    else Ok (Total (record { 0 = place }) (quantity style.mark style.decimals number))

-- the price at a place among the declared styles: first the form of its number, then its value
abbrev pub price_in : Bool → Parts → ℕ → Option Style → Result Price Cause
price_in total parts place None = Err Amount
price_in total parts place (Some style) =
    if not (is_number style.mark parts.number) then Err Amount
    else if total then total_cost style place parts.sign parts.number
    else unit_cost style place parts.sign parts.number

-- the price, once its symbol was looked up
abbrev pub price_at : List Style → Bool → Parts → Option ℕ → Result Price Cause
price_at styles total parts None = Err (undeclared parts.number)
price_at styles total parts (Some place) = price_in total parts place (slice_get styles place)

-- the price of these parts
unfoldable pub price_of_parts : List Style → Bool → Option Parts → Result Price Cause
price_of_parts styles total None = Err Amount
price_of_parts styles total (Some parts) = price_at styles total parts (place_of styles parts.symbol)

-- what a text is under declared styles: `@` or `@@`, blanks, and the form of an amount
unfoldable pub price : List Style → List ℕ → Result Price Cause
price styles text =
    if not (slice_index text 0 == 64) then Err Amount
    else if slice_index (drop 1 text) 0 == 64
    then price_of_parts styles true (amount_parts (skip_blanks (drop 1 (drop 1 text))))
    else price_of_parts styles false (amount_parts (skip_blanks (drop 1 text)))
