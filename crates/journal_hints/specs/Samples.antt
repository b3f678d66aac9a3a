-- How amounts of the declared commodities are written (own rule; docs/RULES.md, "Explanations").
use Rattle.std.specs.Prelude.{ℕ, ◌*◌, ◌^◌, ◌==◌, Bool, ◌&&◌, ◌||◌, if◌then◌else◌, List, [], ◌∷◌, ◌++◌, codes, map, pos}
use Rattle.std.specs.Prelude.{slice_get, Option, Some, None}
use Rattle.std.specs.Char.{is_ascii_digit}
use Rattle.std.specs.List.{list_all, list_any}
use Rattle.money_core.specs.declared.style.Style.{Style}
use Rattle.money_core.specs.declared.unit.Unit.{Unit as Commodity}
use Rattle.journal_balance.specs.Legs.{declared_commodities}
use Rattle.treasury_messages.specs.declared.kind.MessageKind.{MessageKind}
use Rattle.treasury_messages.specs.declared.kind.MessageKind.TheVariants as is
use Rattle.treasury_messages.specs.Said.{Said, says}
use Rattle.treasury_messages.specs.Pieces.{shown_amount}

-- a thousand of a commodity, in smallest units
abbrev pub thousand_of : Option Style → ℕ
thousand_of None = 0
thousand_of (Some style) = 1000 * 10 ^ style.decimals

-- and as it is written
abbrev pub written_sample : List Style → Commodity → List ℕ
written_sample styles unit = shown_amount styles unit (pos (thousand_of (slice_get styles unit.0)))

-- these; a hint where there are none
abbrev pub texts_said : MessageKind → List (List ℕ) → List Said
texts_said kind [] = says is.Hint [] ∷ []
texts_said kind (text ∷ texts) = says kind (text ∷ texts) ∷ []

-- how each declared commodity is written
unfoldable pub samples_said : MessageKind → List Style → List Said
samples_said kind styles = texts_said kind (map (written_sample styles) (declared_commodities styles))

-- a digit, or what stands beside digits where a commodity is missing
abbrev pub is_number_byte : ℕ → Bool
is_number_byte b = is_ascii_digit b || list_any (λ c. b == c) (codes ".,-+ =@*")

-- a number alone
abbrev pub is_bare_number : List ℕ → Bool
is_bare_number text = list_any is_ascii_digit text && list_all is_number_byte text

-- how amounts are written, for a text that is not an amount; for a number alone, that it needs a commodity
abbrev pub amount_form_said : List Style → Bool → List Said
amount_form_said styles is_alone =
    (if is_alone then says is.Hint [] ∷ [] else []) ++ samples_said is.FormOfAmounts styles
