-- The transaction at the line of a fault, and what its postings leave over (own rule; docs/RULES.md, "Explanations").
use Rattle.std.specs.Prelude.{ℕ, ℤ, pos, nat_eq, if◌then◌else◌, List, [], ◌∷◌, find, Option, Some, None}
use Rattle.std.specs.List.{flat_map}
use Rattle.std.specs.Option.{option_map}
use Rattle.std.specs.Ordering.{int_eq}
use Rattle.money_core.specs.declared.style.Style.{Style}
use Rattle.money_core.specs.declared.unit.Unit.{Unit as Commodity}
use Rattle.journal_format.specs.declared.posting.Posting.{Posting}
use Rattle.journal_format.specs.declared.txn.Txn.{Txn}
use Rattle.journal_format.specs.declared.txn.Located.{Located}
use Rattle.journal_balance.specs.Legs.{declared_commodities, sum_of}
use Rattle.treasury_messages.specs.declared.kind.MessageKind.TheVariants as is
use Rattle.treasury_messages.specs.Said.{Said, says}
use Rattle.treasury_messages.specs.Pieces.{shown_amount}

-- the transaction whose header stands on a line
abbrev pub transaction_on : ℕ → List Located → Option Txn
transaction_on line list = option_map (λ (x : Located). x.txn) (find (λ (x : Located). nat_eq x.line line) list)

-- what is left over in a commodity, where that is not 0
abbrev pub left_said : List Style → Commodity → ℤ → List Said
left_said styles unit sum =
    if int_eq sum (pos 0) then [] else says is.LeftOver (shown_amount styles unit sum ∷ []) ∷ []

-- that of all commodities, in declared order: in each the sum of the values of the postings is left over
abbrev pub left_over_said : List Style → List Posting → List Said
left_over_said styles postings =
    flat_map (λ (unit : Commodity). left_said styles unit (sum_of styles unit postings))
    (declared_commodities styles)

-- what is said of the postings of a transaction, if there is one
abbrev pub said_of_postings : (List Posting → List Said) → Option Txn → List Said
said_of_postings said None = []
said_of_postings said (Some t) = said t.postings
