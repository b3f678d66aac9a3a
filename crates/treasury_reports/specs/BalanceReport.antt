-- The balance report of a book (own rule; docs/FORMATS.md, "Balance report"; hledger manual, "balance").
use Rattle.std.specs.Prelude.{ℕ, zero, suc, ℤ, pos, if◌then◌else◌, List, [], ◌∷◌, ◌++◌, length}
use Rattle.std.specs.List.{flat_map}
use Rattle.std.specs.Ordering.{int_eq}
use Rattle.money_core.specs.declared.style.Style.{Style}
use Rattle.money_core.specs.declared.unit.Unit.{Unit as Commodity}
use Rattle.money_core.specs.declared.day.Day.{Day}
use Rattle.money_core.specs.AmountText.{printed_in}
use Rattle.book_core.specs.declared.entry.Entry.{Entry}
use Rattle.book_core.specs.declared.account.Reach.TheVariants.{Own}
use Rattle.book_core.specs.declared.place.Until.TheVariants.{Through}
use Rattle.book_core.specs.Balance.{balance}
use Rattle.book_core.specs.Accounts.{book_accounts}
use Rattle.treasury_state.specs.Federation.{Federation, book_of}
use Rattle.treasury_reports.specs.declared.rows.Layout.TheVariants.{Text}
use Rattle.treasury_reports.specs.declared.rows.Column.TheVariants.{Amount, End}
use Rattle.treasury_reports.specs.Rows.{Row, report_as}

-- the first commodities, so many, in declared order
abbrev pub first_units : ℕ → List Commodity
first_units zero = []
first_units (suc n) = first_units n ++ record { 0 = n } ∷ []

-- amount and account of one balance; nothing where it is zero
abbrev pub amount_row : List Style → List ℕ → Commodity → ℤ → List Row
amount_row styles account unit quantity =
    if int_eq quantity (pos 0) then [] else ((Amount, printed_in styles unit quantity) ∷ ((End, account) ∷ [])) ∷ []

-- an account's own balance in a commodity through the day
abbrev pub balance_row : List Style → List Entry → Day → List ℕ → Commodity → List Row
balance_row styles entries day account unit =
    amount_row styles account unit (balance Own entries account unit (Through day))

-- the rows of an account
abbrev pub account_rows : List Style → List Entry → Day → List ℕ → List Row
account_rows styles entries day account =
    flat_map (balance_row styles entries day account) (first_units (length styles))

-- the balances of a book through the day that are not zero, account by account, each in the commodities as they were
-- declared
unfoldable pub book_rows : List Style → List Entry → Day → List Row
book_rows styles entries day = flat_map (account_rows styles entries day) (book_accounts entries)

-- the report of a branch
abbrev pub balance_rows : Federation → List ℕ → Day → List Row
balance_rows f name day = book_rows f.styles (book_of f name) day

-- its lines
abbrev pub balance_text : Federation → List ℕ → Day → List ℕ
balance_text f name day = report_as Text (balance_rows f name day)
