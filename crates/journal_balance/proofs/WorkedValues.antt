-- Entries that were worked out by hand.
use Rattle.std.proofs.Common.{◌≡◌, ℕ, List, [], ◌∷◌, true, false, pos, neg_ℤ, refl, Some, None}
use Rattle.std.specs.Prelude.{codes}
use Rattle.money_core.specs.declared.mark.Mark.TheVariants.{Point}
use Rattle.money_core.specs.declared.style.Style.{Style}
use Rattle.money_core.specs.declared.price.Price.{Price}
use Rattle.money_core.specs.declared.price.Price.TheVariants.{Each}
use Rattle.money_core.specs.declared.unit.Unit.{Unit as Commodity}
use Rattle.money_core.specs.declared.cause.Cause.TheVariants.{CostNotExact}
use Rattle.money_core.specs.Cost.{exact}
use Rattle.journal_format.specs.declared.posting.Posting.{Posting}
use Rattle.journal_balance.specs.Conversion.{conversion_account}
use Rattle.journal_balance.specs.Legs.{leg, legs_among, sum_of, cost_fault}

-- `1,000.00 EUR` and `$1,000.00`
abbrev pub styles : List Style
styles =
    record { symbol = codes "EUR"; left = false; spaced = true; mark = Point; decimals = 2; grouped = true }
    ∷ record { symbol = codes "$"; left = true; spaced = false; mark = Point; decimals = 2; grouped = true } ∷ []

-- an account with an amount of the first commodity, each at a cost in the second
abbrev pub costing : List ℕ → ℕ → ℕ → ℕ → Posting
costing account q digits decimals =
    record {
      status = None;
      account = account;
      amount = Some (record { 0 = 0 }, pos q);
      price = Some (Each (record { 0 = 1 }) digits decimals);
      claim = None;
      comments = [];
    }

abbrev pub open_posting : List ℕ → Posting
open_posting account =
    record { status = None; account = account; amount = None; price = None; claim = None; comments = [] }

-- `bank  100.00 EUR @ $1.35`, `cash`
abbrev pub exchange : List Posting
exchange = costing (codes "bank") 10000 135 2 ∷ open_posting (codes "cash") ∷ []

-- the amount, its two conversion legs, and what is left
pub exchange_legs : legs_among styles exchange exchange
    ≡ leg (codes "bank") (record { 0 = 0 }) (pos 10000)
    ∷ leg (codes "equity:conversion:$-EUR:EUR") (record { 0 = 0 }) (neg_ℤ (pos 10000))
    ∷ leg (codes "equity:conversion:$-EUR:$") (record { 0 = 1 }) (pos 13500)
    ∷ leg (codes "cash") (record { 0 = 1 }) (neg_ℤ (pos 13500)) ∷ []
unfolding exact conversion_account
exchange_legs = refl

-- 1.00 EUR at $1.3456 has a rest
pub rest_refused : cost_fault styles (costing (codes "bank") 100 13456 4 ∷ []) ≡ Some CostNotExact
unfolding exact
rest_refused = refl
