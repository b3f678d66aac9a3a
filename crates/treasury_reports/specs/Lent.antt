-- Mirrors code: lists of loans, and sums in a table.
use Rattle.std.specs.Prelude.{◌≡◌, ◌<◌, ◌≤◌, ℤ, List, map, length, slice_index_or, pos}
use denote.Ref.{Bor}
use Rattle.money_core.specs.declared.style.Style.{Style}
use Rattle.money_core.specs.declared.unit.Unit.{Unit as Commodity}
use Rattle.money_core.specs.AmountText.{IsDeclared}
use Rattle.book_core.specs.Balance.{value, moved}
use Rattle.book_core.specs.GoodBook.{most_turnover}
use Rattle.journal_lines.specs.Date.{IsDayNumber}
use Rattle.treasury_state.specs.declared.transfer.Transfer.{Transfer}
use Rattle.treasury_state.specs.Fair.{IsFair}
use Rattle.treasury_reports.specs.declared.listed.Listed.{Listed}
use Rattle.treasury_reports.specs.RegisterReport.{legs_in}

-- what is lent
abbrev pub lent : {X : Type 0} → List (Bor X) → List X
lent xs = map (λ x. x.now) xs

-- a listed leg that can be printed
pub record IsListable (styles : List Style) (x : Listed) : Type 0 where
  pub day : IsDayNumber x.day
  pub amount : IsDeclared styles x.leg.unit x.leg.qty

-- a transfer that can be listed
pub record IsListableTransfer (styles : List Style) (t : Transfer) : Type 0 where
  pub fair : IsFair t
  pub day : IsDayNumber t.day
  pub amount : IsDeclared styles t.unit t.qty

-- together they move no more than the limit in any commodity
abbrev pub HaveRoom : List Listed → Type 0
HaveRoom xs = (unit : Commodity) → moved unit (legs_in xs) ≤ most_turnover

-- the sum that a table has of a commodity
abbrev pub sum_at : List ℤ → Commodity → ℤ
sum_at sums unit = slice_index_or sums unit.0 (pos 0)

-- a table has the sums of what was listed, in the declared commodities
abbrev pub AreSumsOfListed : List Style → List ℤ → List Listed → Type 0
AreSumsOfListed styles sums before =
    (unit : Commodity) → unit.0 < length styles → sum_at sums unit ≡ value unit (legs_in before)
