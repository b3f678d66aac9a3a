-- Conversion postings: an exchange of two commodities sums to zero in each (hledger manual, "Equity conversion
-- postings"; that every cost gets them, and the names of their accounts, are own rules).
use Rattle.std.specs.Prelude.{List, [], ◌∷◌, ◌++◌, ℕ, codes, Option, Some, None, slice_get, if◌then◌else◌}
use Rattle.std.specs.Ordering.{is_lt}
use Rattle.money_core.specs.declared.style.Style.{Style}
use Rattle.money_core.specs.declared.unit.Unit.{Unit as Commodity}
use Rattle.book_core.specs.Account.{name_cmp}

-- of two symbols the one that is less by bytes
abbrev pub lesser : List ℕ → List ℕ → List ℕ
lesser a b = if is_lt (name_cmp b a) then b else a

-- and the other one
abbrev pub greater : List ℕ → List ℕ → List ℕ
greater a b = if is_lt (name_cmp b a) then a else b

-- the account for one side of an exchange of two commodities, by their symbols: `equity:conversion:A-B:OWN`, the lesser
-- symbol first
unfoldable pub conversion_account : List ℕ → List ℕ → List ℕ → List ℕ
conversion_account a b own = codes "equity:conversion:" ++ (lesser a b ++ 45 ∷ (greater a b ++ 58 ∷ own))

-- the symbol of a style, without quotes
abbrev pub symbol_in : Option Style → List ℕ
symbol_in None = []
symbol_in (Some style) = style.symbol

-- the symbol of a commodity, without quotes
abbrev pub symbol_of : List Style → Commodity → List ℕ
symbol_of styles unit = symbol_in (slice_get styles unit.0)
