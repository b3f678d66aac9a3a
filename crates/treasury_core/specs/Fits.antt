-- Which commands fit a state's commodities (own rules; docs/RULES.md, "Orders").
use Rattle.std.specs.Prelude.{◌≡◌, ◌<◌, ◌^◌, true, List, length, ⊤, IfSome}
use Rattle.std.specs.List.{AllByRecursion}
use Rattle.money_core.specs.declared.style.Style.{Style}
use Rattle.money_core.specs.Style.{is_style}
use Rattle.money_core.specs.AmountText.{IsDeclared}
use Rattle.journal_lines.specs.Date.{IsDayNumber}
use Rattle.journal_format.specs.declared.txn.Located.{Located}
use Rattle.journal_format.specs.Printable.{IsPrintable}
use Rattle.treasury_core.specs.declared.command.AskedPart.{AskedPart}
use Rattle.treasury_core.specs.declared.command.Dispatch.{Dispatch}
use Rattle.treasury_core.specs.declared.command.Receive.{Receive}
use Rattle.treasury_core.specs.declared.command.Command.{Command}
use Rattle.treasury_core.specs.declared.command.Command.TheVariants as cmd

-- a file of transactions that can be printed, no longer than a list in memory is
pub record IsFile (styles : List Style) (file : List Located) : Type 0 where
  pub few : length file < 2 ^ 64
  pub printable : AllByRecursion (λ (x : Located). IsPrintable styles x.txn) file

-- a dispatch on a day of the years 1 to 9999, of an amount of a declared commodity within the limit
pub record IsDispatch (styles : List Style) (d : Dispatch) : Type 0 where
  pub day : IsDayNumber d.day
  pub amount : IsDeclared styles d.unit d.qty

-- a receipt on a day of the years 1 to 9999; a part is of an amount of a declared commodity within the limit
pub record IsReceive (styles : List Style) (r : Receive) : Type 0 where
  pub day : IsDayNumber r.day
  pub part : IfSome r.part (λ (a : AskedPart). IsDeclared styles a.unit a.qty)

-- what a command has to be that is decided: a style that a sample has, days of the years 1 to 9999, declared
-- commodities, quantities within the limit, transactions that can be printed
abbrev pub Fits : List Style → Command → Type 0
Fits styles (cmd.Branch name) = ⊤
Fits styles (cmd.Commodity style) = is_style style ≡ true
Fits styles (cmd.Enter name file) = IsFile styles file
Fits styles (cmd.Dispatch d) = IsDispatch styles d
Fits styles (cmd.Receive r) = IsReceive styles r
Fits styles (cmd.Lock name day) = IsDayNumber day
Fits styles (cmd.Close c) = IsDayNumber c.day
