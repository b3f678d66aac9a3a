-- Revenues and expenses that a lock through the end of a year leaves (own rule; docs/RULES.md, "Notes").
use Rattle.std.specs.Prelude.{ℕ, nat_eq, pos, ◌+ℤ◌, Bool, not, ◌&&◌, if◌then◌else◌, List, [], ◌∷◌, codes}
use Rattle.std.specs.Ordering.{int_eq}
use Rattle.std.specs.List.{list_any, ends_with}
use Rattle.money_core.specs.declared.day.Day.{Day}
use Rattle.money_core.specs.declared.style.Style.{Style}
use Rattle.money_core.specs.declared.unit.Unit.{Unit as Commodity}
use Rattle.book_core.specs.declared.entry.Entry.{Entry}
use Rattle.book_core.specs.Accounts.{book_accounts}
use Rattle.journal_balance.specs.Legs.{declared_commodities}
use Rattle.journal_lines.specs.Date.{is_in_calendar, printed_date}
use Rattle.treasury_core.specs.Choice.{is_revenue_or_expense}
use Rattle.treasury_core.specs.Closing.{through}
use Rattle.treasury_messages.specs.declared.kind.MessageKind.TheVariants as is
use Rattle.treasury_messages.specs.Said.{Said, says}
use Rattle.treasury_messages.specs.Pieces.{shown_day}

-- the day is a 31 December
abbrev pub is_end_of_year : Day → Bool
is_end_of_year day = is_in_calendar day && ends_with nat_eq (printed_date day) (codes "-12-31")

-- the next day
abbrev pub day_after : Day → Day
day_after day = record { 0 = day.0 +ℤ pos 1 }

-- an account's balance by itself through the day is not zero in one of the commodities
abbrev pub has_balance : List Entry → Day → List Commodity → List ℕ → Bool
has_balance b day units account =
    list_any (λ (unit : Commodity). not (int_eq (through b day account unit) (pos 0))) units

-- that of a revenue or expense account
abbrev pub is_left_open : List Entry → Day → List Commodity → List ℕ → Bool
is_left_open b day units account = is_revenue_or_expense account && has_balance b day units account

-- that of such an account of the book
unfoldable pub is_year_open : List Style → List Entry → Day → Bool
is_year_open styles b day = list_any (is_left_open b day (declared_commodities styles)) (book_accounts b)

-- of a lock of a branch with that book through the day: the branch can still be closed at the day after, if there is
-- one
abbrev pub open_year_said : List Style → List Entry → List ℕ → Day → List Said
open_year_said styles b branch day =
    if is_end_of_year day && is_in_calendar (day_after day) && is_year_open styles b day
    then says is.OpenYear (branch ∷ shown_day day ∷ branch ∷ shown_day (day_after day) ∷ []) ∷ []
    else []
