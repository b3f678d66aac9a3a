-- What a price is as a text, and which prices there are (hledger manual, "Costs"; what is kept, and the limits, are own
-- rules).
use Rattle.std.specs.Prelude.{◌≡◌, ◌≤◌, ℕ, ◌-◌, ◌%◌, ◌==◌, nat_le, List, [], ◌∷◌, ◌++◌, slice_get, Bool, true, false}
use Rattle.std.specs.Prelude.{◌&&◌, ◌||◌, not, ◌⊎◌, Option, Some, None}
use Rattle.money_core.specs.declared.amount.Sign.{Sign}
use Rattle.money_core.specs.declared.amount.Sign.TheVariants.{Absent, Plus, Minus}
use Rattle.money_core.specs.declared.style.Style.{Style}
use Rattle.money_core.specs.declared.unit.Unit.{Unit as Commodity}
use Rattle.money_core.specs.declared.price.Price.{Price}
use Rattle.money_core.specs.declared.price.Price.TheVariants.{Each, Total}
use Rattle.money_core.specs.Blank.{IsBlanks}
use Rattle.money_core.specs.Number.{fraction_part, fits_decimals, quantity}
use Rattle.money_core.specs.Amount.{Parts, IsAmount, limit, place_of, HasNoForm, NamesUndeclared}

-- the greatest unit cost, as a whole number
abbrev pub unit_limit : ℕ
unit_limit = 1_000_000_000_000_000

-- the greatest number of decimals of a unit cost
abbrev pub max_cost_decimals : ℕ
max_cost_decimals = 12

-- the commodity of a price
abbrev pub cost_unit : Price → Commodity
cost_unit (Each unit digits decimals) = unit
cost_unit (Total unit quantity) = unit

-- whether a price is a total cost
abbrev pub is_total : Price → Bool
is_total (Each unit digits decimals) = false
is_total (Total unit units) = true

-- whether a sign and a number make a negative cost
abbrev pub is_negative : Sign → ℕ → Bool
is_negative Absent n = false
is_negative Plus n = false
is_negative Minus n = not (n == 0)

-- what a unit cost is kept as: at least the declared decimals and no zeros at its end past them, within its limits, and
-- not negative
pub record IsUnitCost (style : Style) (parts : Parts) (digits decimals : ℕ) : Type 0 where
  pub declared : style.decimals ≤ decimals
  pub exact : fits_decimals decimals (fraction_part style.mark parts.number) ≡ true
  pub least : (decimals ≡ style.decimals)
      ⊎ (fits_decimals (decimals - 1) (fraction_part style.mark parts.number) ≡ false)
  pub few : decimals ≤ max_cost_decimals
  pub value : digits ≡ quantity style.mark decimals parts.number
  pub small : digits ≤ unit_limit
  pub no_debt : is_negative parts.sign digits ≡ false

-- what a total cost is: of the declared decimals, within the limit, and not negative
pub record IsTotalCost (style : Style) (parts : Parts) (units : ℕ) : Type 0 where
  pub exact : fits_decimals style.decimals (fraction_part style.mark parts.number) ≡ true
  pub value : units ≡ quantity style.mark style.decimals parts.number
  pub small : units ≤ limit
  pub no_debt : is_negative parts.sign units ≡ false

-- the value of a price
abbrev pub IsCostOf : Style → Parts → Price → Type 0
IsCostOf style parts (Each unit digits decimals) = IsUnitCost style parts digits decimals
IsCostOf style parts (Total unit units) = IsTotalCost style parts units

-- `@` before a unit cost, `@@` before a total cost
abbrev pub price_mark : Bool → List ℕ
price_mark false = 64 ∷ []
price_mark true = 64 ∷ 64 ∷ []

-- the text is `@` or `@@`, blanks, and that amount
pub record IsMarkedPrice (total : Bool) (amount text : List ℕ) : Type 0 where
  pub blanks : List ℕ
  pub between : IsBlanks blanks
  pub whole : text ≡ price_mark total ++ (blanks ++ amount)

-- the text is that price: the amount after its `@` or `@@` is of a declared commodity, and its value is the price's
pub record WritesPrice (styles : List Style) (text : List ℕ) (p : Price) : Type 0 where
  pub amount : List ℕ
  pub marked : IsMarkedPrice (is_total p) amount text
  pub parts : Parts
  pub style : Style
  pub declared : place_of styles parts.symbol ≡ Some (cost_unit p).0
  pub its_style : slice_get styles (cost_unit p).0 ≡ Some style
  pub form : IsAmount style.mark amount parts
  pub value : IsCostOf style parts p

-- the text has not the form of a price
abbrev pub HasNoPriceForm : List Style → List ℕ → Type 0
HasNoPriceForm styles text =
    (total : Bool) (amount : List ℕ) → IsMarkedPrice total amount text → HasNoForm styles amount

-- the text has the form of a price, of a symbol that is not declared
pub record NamesUndeclaredCost (styles : List Style) (text : List ℕ) : Type 0 where
  pub total : Bool
  pub amount : List ℕ
  pub marked : IsMarkedPrice total amount text
  pub undeclared : NamesUndeclared styles amount

-- the text has the form of a price of a declared commodity, and its value is no cost
pub record HasNoCost (styles : List Style) (text : List ℕ) : Type 0 where
  pub total : Bool
  pub amount : List ℕ
  pub marked : IsMarkedPrice total amount text
  pub parts : Parts
  pub place : ℕ
  pub style : Style
  pub declared : place_of styles parts.symbol ≡ Some place
  pub its_style : slice_get styles place ≡ Some style
  pub form : IsAmount style.mark amount parts
  pub no_cost : (p : Price) → is_total p ≡ total → IsCostOf style parts p → ⊥

-- whether some text has the price in the style of its commodity
abbrev pub is_cost : Option Style → Price → Bool
is_cost None p = false
is_cost (Some style) (Each unit digits decimals) =
    nat_le style.decimals decimals && nat_le decimals max_cost_decimals && nat_le digits unit_limit
    && ((decimals == style.decimals) || not (digits % 10 == 0))
is_cost (Some style) (Total unit quantity) = nat_le quantity limit

-- whether some text has the price
abbrev pub is_price : List Style → Price → Bool
is_price styles p = is_cost (slice_get styles (cost_unit p).0) p
