-- Declared styles only grow: what is read, printed or computed under some styles is the same under them and more.
use Rattle.std.specs.Prelude.{◌≡◌, ℕ, ℤ, List, ◌++◌, true, Some, Result, Ok}
use Rattle.money_core.specs.declared.style.Style.{Style}
use Rattle.money_core.specs.declared.unit.Unit.{Unit as Commodity}
use Rattle.money_core.specs.declared.unit.Declared.{Declared}
use Rattle.money_core.specs.declared.cause.Cause.{Cause}
use Rattle.money_core.specs.declared.price.Price.{Price}
use Rattle.money_core.specs.Style.{unit_of, styles_after}
use Rattle.money_core.specs.Reading.{amount}
use Rattle.money_core.specs.AmountText.{IsDeclared, printed_in}
use Rattle.money_core.specs.Price.{is_price}
use Rattle.money_core.specs.PriceReading.{price}
use Rattle.money_core.specs.PriceText.{printed_price}
use Rattle.money_core.specs.Cost.{cost}

-- what stays as it is when styles are appended to those that are declared
pub record StaysUnderMore (styles more : List Style) : Type 0 where
  pub found : (symbol : List ℕ) (unit : Commodity) → unit_of styles symbol ≡ Some unit
      → unit_of (styles ++ more) symbol ≡ Some unit
  pub read : (text : List ℕ) (unit : Commodity) (q : ℤ) → amount styles text ≡ Ok (unit, q)
      → amount (styles ++ more) text ≡ Ok (unit, q)
  pub declared : (unit : Commodity) (q : ℤ) → IsDeclared styles unit q → IsDeclared (styles ++ more) unit q
  pub printed : (unit : Commodity) (q : ℤ) → IsDeclared styles unit q
      → printed_in (styles ++ more) unit q ≡ printed_in styles unit q
  pub read_price : (text : List ℕ) (p : Price) → price styles text ≡ Ok p → price (styles ++ more) text ≡ Ok p
  pub prices : (p : Price) → is_price styles p ≡ true → is_price (styles ++ more) p ≡ true
  pub printed_prices : (p : Price) → is_price styles p ≡ true
      → printed_price (styles ++ more) p ≡ printed_price styles p
  pub costs : (q : ℤ) (unit : Commodity) (p : Price) → IsDeclared styles unit q → is_price styles p ≡ true
      → cost (styles ++ more) q unit p ≡ cost styles q unit p

-- a declaration appends to the styles, whatever it is answered
abbrev pub Appends : List Style → Style → Result Declared Cause → Type 0
Appends styles style answer = (more : List Style) × (styles_after styles style answer ≡ styles ++ more)

-- declared styles only grow, and what was there stays
pub record StylesGrow : Type 0 where
  pub appends : (styles : List Style) (style : Style) (answer : Result Declared Cause) → Appends styles style answer
  pub stays : (styles more : List Style) → StaysUnderMore styles more
