-- balances that can be printed
use Rattle.std.proofs.Common.{ℕ, ◌<◌, List, length, arith}
use Rattle.money_core.specs.declared.unit.Unit.{Unit as Commodity}
use Rattle.money_core.specs.declared.style.Style.{Style}
use Rattle.money_core.specs.declared.day.Day.{Day}
use Rattle.money_core.specs.AmountText.{IsDeclared}
use Rattle.book_core.specs.declared.entry.Entry.{Entry}
use Rattle.book_core.specs.declared.account.Reach.TheVariants.{Own}
use Rattle.book_core.specs.declared.place.Until.TheVariants.{Through}
use Rattle.book_core.specs.Balance.{turnover, balance}
use Rattle.book_core.specs.GoodBook.{HasRoom}
use Rattle.book_core.proofs.SumLemmas.{within_entries}
use Rattle.book_core.proofs.NamedLemmas.{abs_within}

-- no balance passes the turnover
pub balance_is_declared : (styles : List Style) (entries : List Entry) (account : List ℕ) (unit : Commodity) (day : Day)
    → unit.0 < length styles → HasRoom entries → IsDeclared styles unit (balance Own entries account unit (Through day))
unfolding balance
balance_is_declared styles entries account unit day known room =
    let within = abs_within (turnover unit entries) (balance Own entries account unit (Through day))
    (within_entries Own account unit (Through day) 1 entries) in
    record { known = known; size = omega (arith, room unit) }
