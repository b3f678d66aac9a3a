-- What an amount costs (hledger manual, "Costs"; that nothing is rounded, and the limit, are own rules).
use Rattle.std.specs.Prelude.{ℕ, zero, suc, ℤ, pos, negsuc, neg_ℤ, unsigned_abs, ◌+◌, ◌*◌, ◌/◌, ◌%◌, ◌^◌, ◌==◌, nat_lt}
use Rattle.std.specs.Prelude.{List, slice_get, not, if◌then◌else◌, Option, Some, None, Result, Ok, Err}
use Rattle.money_core.specs.declared.style.Style.{Style}
use Rattle.money_core.specs.declared.unit.Unit.{Unit as Commodity}
use Rattle.money_core.specs.declared.price.Price.{Price}
use Rattle.money_core.specs.declared.price.Price.TheVariants.{Each, Total}
use Rattle.money_core.specs.declared.cause.Cause.{Cause}
use Rattle.money_core.specs.declared.cause.Cause.TheVariants.{Cost, CostNotExact}
use Rattle.money_core.specs.Amount.{limit}
use Rattle.money_core.specs.Price.{cost_unit}

-- a number with the sign of a quantity, and 0 for the quantity 0
abbrev pub signed_as : ℤ → ℕ → ℤ
signed_as (pos zero) n = pos 0
signed_as (pos (suc q)) n = pos n
signed_as (negsuc q) n = neg_ℤ (pos n)

-- a fraction with the sign of a quantity as a whole number: first its size, then its rest
unfoldable pub exact : ℤ → ℕ → ℕ → Result ℤ Cause
exact q above below =
    if nat_lt (limit * below) above then Err Cost
    else if not (above % below == 0) then Err CostNotExact
    else Ok (signed_as q (above / below))

-- The cost in smallest units: of a quantity with d decimals, at a cost of each unit with s decimals, in a commodity
-- with c decimals, it is quantity * digits / 10^(d + s) units, which are 10^c smallest units each.
abbrev pub cost_in : ℤ → Option Style → Option Style → Price → Result ℤ Cause
cost_in q None style p = Err Cost
cost_in q (Some own) None p = Err Cost
cost_in q (Some own) (Some style) (Each unit digits decimals) =
    exact q (unsigned_abs q * digits * 10 ^ style.decimals) (10 ^ (own.decimals + decimals))
cost_in q (Some own) (Some style) (Total unit quantity) = Ok (signed_as q quantity)

-- what a quantity of a commodity costs at a price: never in the commodity itself
abbrev pub cost : List Style → ℤ → Commodity → Price → Result ℤ Cause
cost styles q unit p = if unit.0 == (cost_unit p).0 then Err Cost
    else cost_in q (slice_get styles unit.0) (slice_get styles (cost_unit p).0) p
