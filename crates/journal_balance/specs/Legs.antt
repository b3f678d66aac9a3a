-- What a transaction does to the book: the legs and assertions of its postings (hledger manual, "Postings", "Costs",
-- "Equity conversion postings"; that nothing is rounded, the limit, and the order of faults, are own rules).
use Rattle.std.specs.Prelude.{ℕ, zero, suc, ◌+◌, nat_eq, nat_lt, ◌==◌, Bool, true, false, ◌&&◌, not, if◌then◌else◌}
use Rattle.std.specs.Prelude.{List, [], ◌∷◌, ◌++◌, length, ℤ, pos, neg_ℤ, ◌+ℤ◌, unsigned_abs, Option, Some, None}
use Rattle.std.specs.Prelude.{Result, Ok, Err, is_some}
use Rattle.std.specs.Ordering.{int_eq}
use Rattle.std.specs.List.{list_any, list_all, count_by, flat_map}
use Rattle.std.specs.Option.{option_or}
use Rattle.money_core.specs.declared.style.Style.{Style}
use Rattle.money_core.specs.declared.unit.Unit.{Unit as Commodity}
use Rattle.money_core.specs.declared.price.Price.{Price}
use Rattle.money_core.specs.declared.cause.Cause.{Cause}
use Rattle.money_core.specs.declared.cause.Cause.TheVariants.{TwoBlanks, Unbalanced, Limit}
use Rattle.money_core.specs.declared.claim.Claim.{Claim}
use Rattle.money_core.specs.Amount.{limit}
use Rattle.money_core.specs.Price.{cost_unit}
use Rattle.money_core.specs.Cost.{cost}
use Rattle.book_core.specs.declared.leg.Leg.{Leg}
use Rattle.book_core.specs.declared.claim.Placed.{Placed}
use Rattle.book_core.specs.declared.entry.Entry.{Entry}
use Rattle.journal_format.specs.declared.posting.Posting.{Posting}
use Rattle.journal_format.specs.declared.txn.Txn.{Txn}
use Rattle.journal_balance.specs.Conversion.{symbol_of, conversion_account}

-- so many commodities from number n on, in declared order
abbrev pub commodities : ℕ → ℕ → List Commodity
commodities n zero = []
commodities n (suc k) = record { 0 = n } ∷ commodities (n + 1) k

-- all commodities, in declared order
abbrev pub declared_commodities : List Style → List Commodity
declared_commodities styles = commodities 0 (length styles)

-- the quantity of a cost, where it has no fault
abbrev pub cost_value : Result ℤ Cause → ℤ
cost_value (Ok q) = q
cost_value (Err cause) = pos 0

-- a quantity counts in its own commodity
abbrev pub in_unit : Commodity → Commodity → ℤ → ℤ
in_unit unit own q = if nat_eq own.0 unit.0 then q else pos 0

-- the value of an amount in a commodity: the amount, or with a cost the cost ("Costs")
abbrev pub amount_value : List Style → Commodity → Commodity × ℤ → Option Price → ℤ
amount_value styles unit a None = in_unit unit a.0 a.1
amount_value styles unit a (Some p) = in_unit unit (cost_unit p) (cost_value (cost styles a.1 a.0 p))

-- the value of a posting in a commodity; one without an amount has none of its own
abbrev pub value_of : List Style → Commodity → Option (Commodity × ℤ) → Option Price → ℤ
value_of styles unit None p = pos 0
value_of styles unit (Some a) p = amount_value styles unit a p

-- the sum of the values of postings in a commodity
abbrev pub sum_of : List Style → Commodity → List Posting → ℤ
sum_of styles unit [] = pos 0
sum_of styles unit (p ∷ ps) = value_of styles unit p.amount p.price +ℤ sum_of styles unit ps

-- a leg
abbrev pub leg : List ℕ → Commodity → ℤ → Leg
leg account unit q = record { account = account; unit = unit; qty = q }

-- the conversion legs of an amount with a cost: the amount goes out, its value comes in ("Equity conversion postings")
abbrev pub conversion_legs : List Style → Commodity × ℤ → Price → List Leg
conversion_legs styles a p =
    let own = symbol_of styles a.0 in
    let other = symbol_of styles (cost_unit p) in
    leg (conversion_account own other own) a.0 (neg_ℤ a.1)
    ∷ leg (conversion_account own other other) (cost_unit p) (cost_value (cost styles a.1 a.0 p)) ∷ []

-- the legs of an amount: the amount, and with a cost the two conversion legs after it
abbrev pub amount_legs : List Style → List ℕ → Commodity × ℤ → Option Price → List Leg
amount_legs styles account a None = leg account a.0 a.1 ∷ []
amount_legs styles account a (Some p) = leg account a.0 a.1 ∷ conversion_legs styles a p

-- a leg that takes what is left in a commodity, where that is not 0
abbrev pub rest_leg : List ℕ → Commodity → ℤ → List Leg
rest_leg account unit sum = if int_eq sum (pos 0) then [] else leg account unit (neg_ℤ sum) ∷ []

-- what is left of all postings, in declared order ("Postings": one amount may be left out)
abbrev pub rest_legs : List Style → List ℕ → List Posting → List Leg
rest_legs styles account all =
    flat_map (λ (unit : Commodity). rest_leg account unit (sum_of styles unit all)) (declared_commodities styles)

-- the legs of a posting among all postings
abbrev pub posting_legs : List Style → List Posting → List ℕ → Option (Commodity × ℤ) → Option Price → List Leg
posting_legs styles all account None p = rest_legs styles account all
posting_legs styles all account (Some a) p = amount_legs styles account a p

-- those of postings, in order
abbrev pub legs_among : List Style → List Posting → List Posting → List Leg
legs_among styles all [] = []
legs_among styles all (x ∷ xs) = posting_legs styles all x.account x.amount x.price ++ legs_among styles all xs

-- an assertion on that leg, if there is one
abbrev pub placed : ℕ → Option Claim → List Placed
placed k None = []
placed k (Some claim) = record { leg = k; claim = claim } ∷ []

-- the assertions of postings, each on the first leg of its posting, the legs numbered from k ("Balance assertions")
abbrev pub claims_among : List Style → List Posting → ℕ → List Posting → List Placed
claims_among styles all k [] = []
claims_among styles all k (x ∷ xs) =
    placed k x.claim ++ claims_among styles all (k + length (posting_legs styles all x.account x.amount x.price)) xs

-- the entry of a transaction without a fault
abbrev pub entry_of : List Style → Txn → Entry
entry_of styles t = record {
  day = t.day;
  legs = legs_among styles t.postings t.postings;
  claims = claims_among styles t.postings 1 t.postings;
}

-- a posting without an amount
abbrev pub is_without_amount : Posting → Bool
is_without_amount p = not (is_some p.amount)

-- the fault of a result
abbrev pub fault_in : Result ℤ Cause → Option Cause
fault_in (Ok q) = None
fault_in (Err cause) = Some cause

-- the fault of a posting's cost: 12 or 13
abbrev pub cost_fault_of : List Style → Option (Commodity × ℤ) → Option Price → Option Cause
cost_fault_of styles None p = None
cost_fault_of styles (Some a) None = None
cost_fault_of styles (Some a) (Some p) = fault_in (cost styles a.1 a.0 p)

-- the first fault of a cost, posting by posting
abbrev pub cost_fault : List Style → List Posting → Option Cause
cost_fault styles [] = None
cost_fault styles (p ∷ ps) = option_or (cost_fault_of styles p.amount p.price) (cost_fault styles ps)

-- the values sum to zero in every declared commodity
abbrev pub is_even : List Style → List Posting → Bool
is_even styles ps =
    list_all (λ (unit : Commodity). int_eq (sum_of styles unit ps) (pos 0)) (declared_commodities styles)

-- a leg over the limit
abbrev pub is_large : Leg → Bool
is_large x = nat_lt limit (unsigned_abs x.qty)

-- the first fault of a transaction: 17, then 12 and 13 posting by posting, then 18, then 28
unfoldable pub balancing_fault : List Style → Txn → Option Cause
balancing_fault styles t =
    if nat_lt 1 (count_by is_without_amount t.postings) then Some TwoBlanks
    else option_or (cost_fault styles t.postings)
    (if not (list_any is_without_amount t.postings) && not (is_even styles t.postings) then Some Unbalanced
    else if list_any is_large (legs_among styles t.postings t.postings) then Some Limit
    else None)

-- the entry, unless there is a fault
abbrev pub entry_unless : Entry → Option Cause → Result Entry Cause
entry_unless e None = Ok e
entry_unless e (Some cause) = Err cause

-- the entry of a transaction, or its first fault
unfoldable pub balanced_entry : List Style → Txn → Result Entry Cause
balanced_entry styles t = entry_unless (entry_of styles t) (balancing_fault styles t)
