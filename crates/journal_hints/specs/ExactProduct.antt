-- The exact product of an amount and its unit cost, of the posting by which a transaction is refused with 13 (own rule;
-- docs/RULES.md, "Explanations").
use Rattle.std.specs.Prelude.{ℕ, ℤ, unsigned_abs, ◌+◌, ◌*◌, ◌/◌, ◌%◌, ◌^◌, ◌==◌, Bool, true, false, if◌then◌else◌}
use Rattle.std.specs.Prelude.{List, [], ◌∷◌, ◌++◌, decimal, find, slice_get, Option, Some, None}
use Rattle.money_core.specs.declared.cause.Cause.{Cause}
use Rattle.money_core.specs.declared.cause.Cause.TheVariants.{CostNotExact}
use Rattle.money_core.specs.declared.mark.Mark.{Mark}
use Rattle.money_core.specs.declared.price.Price.{Price}
use Rattle.money_core.specs.declared.price.Price.TheVariants.{Each}
use Rattle.money_core.specs.declared.style.Style.{Style}
use Rattle.money_core.specs.declared.unit.Unit.{Unit as Commodity}
use Rattle.money_core.specs.AmountText.{printed_symbol, gap}
use Rattle.money_core.specs.Mark.{decimal_byte}
use Rattle.money_core.specs.Printed.{places}
use Rattle.journal_format.specs.declared.posting.Posting.{Posting}
use Rattle.journal_balance.specs.Legs.{cost_fault_of}
use Rattle.treasury_messages.specs.declared.kind.MessageKind.TheVariants as is
use Rattle.treasury_messages.specs.Said.{Said, says}

-- a digit before others: none if it is a zero and no other follows
abbrev pub digit_before : ℕ → List ℕ → List ℕ
digit_before d [] = if d == 48 then [] else d ∷ []
digit_before d (x ∷ xs) = d ∷ x ∷ xs

-- digits without the zeros at their end
abbrev pub without_zeros : List ℕ → List ℕ
without_zeros [] = []
without_zeros (d ∷ ds) = digit_before d (without_zeros ds)

-- a number whose last digits, so many, are decimals: the others, the decimal mark, and these without zeros at their end
abbrev pub exact_number : Mark → ℕ → ℕ → List ℕ
exact_number mark n number =
    decimal (number / 10 ^ n) ++ decimal_byte mark ∷ without_zeros (places n (number % 10 ^ n))

-- such a number of a commodity, as an amount is printed: the symbol on its side, with a blank between or without
unfoldable pub exact_amount : Style → ℕ → ℕ → List ℕ
exact_amount style n number =
    if style.left then printed_symbol style.symbol ++ (gap style.spaced ++ exact_number style.mark n number)
    else exact_number style.mark n number ++ (gap style.spaced ++ printed_symbol style.symbol)

-- what is said of a quantity with d decimals, at a cost of each unit with s decimals: the product, which has d + s
abbrev pub product_in : ℤ → ℕ → ℕ → Option Style → Option Style → List Said
product_in q digits decimals (Some own) (Some style) =
    says is.Product (exact_amount style (own.decimals + decimals) (unsigned_abs q * digits) ∷ []) ∷ []
product_in q digits decimals _ _ = []

-- of an amount at its price, if there are both, and the price is that of each unit
abbrev pub product_said : List Style → Option (Commodity × ℤ) → Option Price → List Said
product_said styles (Some a) (Some (Each unit digits decimals)) =
    product_in a.1 digits decimals (slice_get styles a.0.0) (slice_get styles unit.0)
product_said styles _ _ = []

-- of a posting, if there is one
abbrev pub product_of : List Style → Option Posting → List Said
product_of styles None = []
product_of styles (Some x) = product_said styles x.amount x.price

-- the fault is 13
abbrev pub is_not_exact : Option Cause → Bool
is_not_exact (Some CostNotExact) = true
is_not_exact _ = false

-- the cost of a posting has that fault
abbrev pub is_inexact : List Style → Posting → Bool
is_inexact styles x = is_not_exact (cost_fault_of styles x.amount x.price)

-- of the first of a transaction's postings whose cost has it
abbrev pub inexact_said : List Style → List Posting → List Said
inexact_said styles postings = product_of styles (find (is_inexact styles) postings)
