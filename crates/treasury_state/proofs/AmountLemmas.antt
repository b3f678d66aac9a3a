-- the amount of a posting that can be printed
use Rattle.std.proofs.Common.{◌≡◌, ◌&&◌, ℕ, true, List, ℤ, Some, None}
use Rattle.std.specs.Str.{is_utf8}
use Rattle.std.proofs.lemmas.Bool.{and_parts}
use Rattle.money_core.specs.declared.style.Style.{Style}
use Rattle.money_core.specs.declared.unit.Unit.{Unit as Commodity}
use Rattle.journal_lines.specs.AccountName.{is_account}
use Rattle.journal_format.specs.Printable.{is_amount, is_posting, is_value}
use Rattle.journal_balance.specs.Legs.{leg}
use Rattle.treasury_state.specs.Transfer.{posting}

-- ---- transfers

pub amount_of : (styles : List Style) (account : List ℕ) (unit : Commodity) (q : ℤ)
    → is_posting styles (posting (leg account unit q)) ≡ true → is_amount styles unit q ≡ true
amount_of styles account unit q h =
    let one = and_parts (is_account account && is_utf8 account && is_value styles (Some (unit, q)) None None) _ h in
    let two = and_parts (is_account account && is_utf8 account) (is_value styles (Some (unit, q)) None None) one.0 in
    let three = and_parts (is_amount styles unit q && true) _ two.1 in
    (and_parts (is_amount styles unit q) _ three.0).0
