-- What the pieces of a message name: days, amounts, headers and places as they are shown (own rule; docs/RULES.md,
-- "Explanations").
use Rattle.std.specs.Prelude.{ℕ, ℤ, nat_lt, nat_le, unsigned_abs, Bool, ◌&&◌, if◌then◌else◌}
use Rattle.std.specs.Prelude.{List, [], ◌∷◌, ◌++◌, length, codes, decimal, option_to_list}
use Rattle.std.specs.List.{flat_map}
use Rattle.money_core.specs.declared.day.Day.{Day}
use Rattle.money_core.specs.declared.style.Style.{Style}
use Rattle.money_core.specs.declared.unit.Unit.{Unit as Commodity}
use Rattle.money_core.specs.Amount.{limit}
use Rattle.money_core.specs.AmountText.{printed_in}
use Rattle.journal_lines.specs.Date.{printed_date, is_in_calendar}
use Rattle.journal_lines.specs.Printed.{header_status}
use Rattle.journal_format.specs.declared.txn.Txn.{Txn}
use Rattle.treasury_messages.specs.declared.piece.Piece.{Piece}
use Rattle.treasury_messages.specs.declared.piece.Piece.TheVariants as piece

-- a text writes the amount: its commodity is declared, and it is within the limit
abbrev pub is_printable_amount : List Style → Commodity → ℤ → Bool
is_printable_amount styles unit q = nat_lt unit.0 (length styles) && nat_le (unsigned_abs q) limit

-- an amount as it is shown
abbrev pub shown_amount : List Style → Commodity → ℤ → List ℕ
shown_amount styles unit q = if is_printable_amount styles unit q then printed_in styles unit q else codes "?"

-- a day as it is shown
abbrev pub shown_day : Day → List ℕ
shown_day day = if is_in_calendar day then printed_date day else codes "?"

-- the header of a transaction: its day, its status, its code if it has one, and its description
abbrev pub header_values : Txn → List (List ℕ)
header_values t = shown_day t.day ∷ header_status t.status ∷ (option_to_list t.code ++ t.description ∷ [])

-- a file, and a line of it
abbrev pub origin_values : List ℕ → ℕ → List (List ℕ)
origin_values source line = source ∷ decimal line ∷ []

-- what a piece names
abbrev pub piece_values : Piece → List (List ℕ)
piece_values (piece.Words words) = []
piece_values (piece.Text text) = text.now ∷ []
piece_values (piece.Number n) = decimal n ∷ []
piece_values (piece.Day day) = shown_day day ∷ []
piece_values (piece.Amount styles unit q) = shown_amount styles.now unit q ∷ []
piece_values (piece.Header t) = header_values t.now
piece_values (piece.Origin source line) = origin_values source.now line

-- what pieces name, in order
abbrev pub values : List Piece → List (List ℕ)
values ps = flat_map piece_values ps
