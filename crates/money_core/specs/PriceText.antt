-- What a price is printed as (own rule), and what such a text has wherever it stands.
use Rattle.std.specs.Prelude.{◌≡◌, ◌≤◌, ℕ, pos, ◌-◌, List, [], ◌∷◌, ◌++◌, length, slice_index, slice_get, true, false}
use Rattle.std.specs.Prelude.{Option, Some, None, Ok}
use Rattle.std.specs.Str.{is_utf8}
use Rattle.money_core.specs.declared.style.Style.{Style}
use Rattle.money_core.specs.declared.price.Price.{Price}
use Rattle.money_core.specs.declared.price.Price.TheVariants.{Each, Total}
use Rattle.money_core.specs.Blank.{is_blank}
use Rattle.money_core.specs.AmountText.{printed_with, is_amount_text}
use Rattle.money_core.specs.Price.{cost_unit, is_price}
use Rattle.money_core.specs.PriceReading.{price}

-- what a price is printed as, in the style of its commodity
abbrev pub printed_cost : Option Style → Price → List ℕ
printed_cost None p = []
printed_cost (Some style) (Each unit digits decimals) = 64 ∷ 32 ∷ printed_with style decimals (pos digits)
printed_cost (Some style) (Total unit quantity) = 64 ∷ 64 ∷ 32 ∷ printed_with style style.decimals (pos quantity)

-- what a price is printed as
unfoldable pub printed_price : List Style → Price → List ℕ
printed_price styles p = printed_cost (slice_get styles (cost_unit p).0) p

-- the `@` or `@@` of a price, and a space
abbrev pub price_sign : Price → List ℕ
price_sign (Each unit digits decimals) = 64 ∷ 32 ∷ []
price_sign (Total unit quantity) = 64 ∷ 64 ∷ 32 ∷ []

-- the greatest length of a printed price, in bytes
abbrev pub longest_price : ℕ
longest_price = 70

-- The text is that price wherever it stands: it reads as it, is UTF-8, goes on after `@ ` or `@@ ` with only bytes of
-- an amount, has no blank at its end, and is not too long.
pub record IsPriceText (styles : List Style) (p : Price) (text : List ℕ) : Type 0 where
  pub reads : price styles text ≡ Ok p
  pub utf8 : is_utf8 text ≡ true
  pub rest : List ℕ
  pub whole : text ≡ price_sign p ++ rest
  pub form : is_amount_text false rest ≡ true
  pub first : is_blank (slice_index rest 0) ≡ false
  pub last : is_blank (slice_index text (length text - 1)) ≡ false
  pub short : length text ≤ longest_price

-- Each price of these styles is printed as a text that reads as it.
abbrev pub PricesPrint : List Style → Type 0
PricesPrint styles = (p : Price) → is_price styles p ≡ true → IsPriceText styles p (printed_price styles p)

-- What is read is one of these prices.
abbrev pub PricesBound : List Style → Type 0
PricesBound styles = (text : List ℕ) (p : Price) → price styles text ≡ Ok p → is_price styles p ≡ true
