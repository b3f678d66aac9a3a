-- under more styles a transaction keeps its entry, or its fault
use Rattle.std.proofs.Common.{◌≡◌, ℕ, zero, suc, ◌+◌, ◌<◌, ◌≤◌, Bool, true, false, ◌&&◌, List, [], ◌∷◌, ◌++◌, length, ℤ}
use Rattle.std.proofs.Common.{pos, ◌+ℤ◌, refl, ap, ◌∙◌, sym, arith, append-nil, length-append, Option, Some, None}
use Rattle.std.proofs.Common.{Result}
use Rattle.std.specs.Prelude.{slice_get}
use Rattle.std.specs.Ordering.{int_eq}
use Rattle.std.specs.Option.{option_or}
use Rattle.std.specs.List.{list_all, flat_map}
use Rattle.std.proofs.lemmas.Int.{ints}
use Rattle.std.proofs.lemmas.Bool.{and_parts}
use Rattle.std.proofs.lemmas.Bool.Decides.{Decides-int_eq}
use Rattle.std.proofs.lemmas.Grind.{flat_map-append}
use Rattle.std.proofs.lemmas.List.Folds.{list_all-append}
use Rattle.money_core.specs.declared.style.Style.{Style}
use Rattle.money_core.specs.declared.unit.Unit.{Unit as Commodity}
use Rattle.money_core.specs.declared.price.Price.{Price}
use Rattle.money_core.specs.declared.cause.Cause.{Cause}
use Rattle.money_core.specs.Price.{cost_unit, is_price}
use Rattle.money_core.specs.Cost.{cost}
use Rattle.money_core.specs.Growth.{StaysUnderMore}
use Rattle.book_core.specs.declared.leg.Leg.{Leg}
use Rattle.book_core.specs.declared.claim.Placed.{Placed}
use Rattle.book_core.specs.declared.entry.Entry.{Entry}
use Rattle.journal_format.specs.declared.posting.Posting.{Posting}
use Rattle.journal_format.specs.declared.txn.Txn.{Txn}
use Rattle.journal_format.specs.Printable.{is_amount, is_price_or_none, is_posting}
use Rattle.journal_format.proofs.MoreStylesLemmas.{declared_amount}
use Rattle.journal_balance.specs.Conversion.{symbol_in, symbol_of, conversion_account}
use Rattle.journal_balance.specs.Legs.{commodities, declared_commodities, cost_value, in_unit, amount_value, value_of}
use Rattle.journal_balance.specs.Legs.{sum_of, leg}
use Rattle.journal_balance.specs.Legs.{amount_legs, rest_leg, rest_legs, posting_legs, legs_among, placed, claims_among}
use Rattle.journal_balance.specs.Legs.{entry_of, fault_in, cost_fault_of, cost_fault, is_even, balancing_fault}
use Rattle.journal_balance.specs.Legs.{entry_unless}
use Rattle.journal_balance.specs.Legs.{balanced_entry}
use Rattle.journal_balance.proofs.LimitLemmas.{amount_ok}
use Rattle.journal_balance.proofs.ValueLemmas.{price_declared, sum_undeclared}

-- the commodities from number n on: the first ones, then the others
commodities-add : (n j k : ℕ) → commodities n (j + k) ≡ commodities n j ++ commodities (n + j) k
commodities-add n zero k =
    let none : zero + k ≡ k = omega arith in
    let here : n ≡ n + zero = omega arith in
    ap (commodities n) none ∙ ap (λ (m : ℕ). commodities m k) here
commodities-add n (suc j) k =
    let more : suc j + k ≡ suc (j + k) = omega arith in
    let behind : n + 1 + j ≡ n + suc j = omega arith in
    let own : Commodity = record { 0 = n } in
    ap (commodities n) more ∙ ap (λ (us : List Commodity). own ∷ us)
    (commodities-add (n + 1) j k ∙ ap (λ (m : ℕ). commodities (n + 1) j ++ commodities m k) behind)

declared-append : (styles more : List Style)
    → declared_commodities (styles ++ more) ≡ declared_commodities styles ++ commodities (length styles) (length more)
declared-append styles more =
    let from : zero + length styles ≡ length styles = omega arith in
    ap (commodities 0) (length-append styles more) ∙ commodities-add 0 (length styles) (length more) ∙ ap
    (λ (n : ℕ). declared_commodities styles ++ commodities n (length more)) from

-- equal sums leave equal rests
rests_same : (f g : Commodity → ℤ) (account : List ℕ) → ((u : Commodity) → f u ≡ g u) → (us : List Commodity)
    → flat_map (λ (u : Commodity). rest_leg account u (f u)) us
    ≡ flat_map (λ (u : Commodity). rest_leg account u (g u)) us
rests_same f g account same [] = refl
rests_same f g account same (u ∷ us) =
    ap (λ (z : ℤ). rest_leg account u z ++ flat_map (λ (v : Commodity). rest_leg account v (f v)) us) (same u)
    ∙ ap (λ (xs : List Leg). rest_leg account u (g u) ++ xs) (rests_same f g account same us)

-- sums of 0 leave none
rests_none : (f : Commodity → ℤ) (account : List ℕ) (n k : ℕ) → ((u : Commodity) → n ≤ u.0 → f u ≡ pos 0)
    → flat_map (λ (u : Commodity). rest_leg account u (f u)) (commodities n k) ≡ []
rests_none f account n zero h = refl
rests_none f account n (suc k) h =
    let behind = flat_map (λ (u : Commodity). rest_leg account u (f u)) (commodities (n + 1) k) in
    let later = rests_none f account (n + 1) k (λ u past. h u (omega (arith, past))) in
    ap (λ (z : ℤ). rest_leg account (record { 0 = n }) z ++ behind) (h (record { 0 = n }) (omega arith)) ∙ later

evens_same : (f g : Commodity → ℤ) → ((u : Commodity) → f u ≡ g u) → (us : List Commodity)
    → list_all (λ (u : Commodity). int_eq (f u) (pos 0)) us ≡ list_all (λ (u : Commodity). int_eq (g u) (pos 0)) us
evens_same f g same [] = refl
evens_same f g same (u ∷ us) =
    ap (λ (z : ℤ). int_eq z (pos 0) && list_all (λ (v : Commodity). int_eq (f v) (pos 0)) us) (same u)
    ∙ ap (λ (b : Bool). int_eq (g u) (pos 0) && b) (evens_same f g same us)

evens_all : (f : Commodity → ℤ) (n k : ℕ) → ((u : Commodity) → n ≤ u.0 → f u ≡ pos 0)
    → list_all (λ (u : Commodity). int_eq (f u) (pos 0)) (commodities n k) ≡ true
evens_all f n zero h = refl
evens_all f n (suc k) h =
    let behind = list_all (λ (u : Commodity). int_eq (f u) (pos 0)) (commodities (n + 1) k) in
    ap (λ (z : ℤ). int_eq z (pos 0) && behind) (h (record { 0 = n }) (omega arith)) ∙ evens_all f (n + 1) k
    (λ u past. h u (omega (arith, past)))

-- a declared style stays where it is
get-append : (styles more : List Style) (i : ℕ) → i < length styles → slice_get (styles ++ more) i ≡ slice_get styles i
get-append [] more i h = absurd (omega (arith, h))
get-append (s ∷ ss) more zero h = refl
get-append (s ∷ ss) more (suc i) h = get-append ss more i (omega (arith, h))

symbol-append : (styles more : List Style) (unit : Commodity) → unit.0 < length styles
    → symbol_of (styles ++ more) unit ≡ symbol_of styles unit
symbol-append styles more unit h = ap symbol_in (get-append styles more unit.0 h)

-- what is said of one posting, by its amount and its cost
record StaysOne (styles more : List Style) (account : List ℕ) (a : Commodity × ℤ) (o : Option Price) : Type 0 where
  legs : amount_legs (styles ++ more) account a o ≡ amount_legs styles account a o
  worth : (unit : Commodity) → amount_value (styles ++ more) unit a o ≡ amount_value styles unit a o
  fault : cost_fault_of (styles ++ more) (Some a) o ≡ cost_fault_of styles (Some a) o

stays_one : (styles more : List Style) → StaysUnderMore styles more
    → (account : List ℕ) (a : Commodity × ℤ) (o : Option Price) → is_amount styles a.0 a.1 ≡ true
    → is_price_or_none styles o ≡ true → StaysOne styles more account a o
stays_one styles more stays account a None ok priced = record { legs = refl; worth = λ unit. refl; fault = refl }
stays_one styles more stays account a (Some p) ok priced =
    let is_declared = declared_amount styles a.0 a.1 ok in
    let same = stays.costs a.1 a.0 p is_declared priced in
    let own = symbol-append styles more a.0 is_declared.known in
    let other = symbol-append styles more (cost_unit p) (price_declared styles p priced) in
    record {
      legs = rw (own, other, same) refl;
      worth = λ unit. ap (λ (r : Result ℤ Cause). in_unit unit (cost_unit p) (cost_value r)) same;
      fault = ap fault_in same;
    }

stays_at : (styles more : List Style) → StaysUnderMore styles more → (p : Posting) (a : Commodity × ℤ)
    → is_posting styles p ≡ true → p.amount ≡ Some a
    → StaysOne styles more p.account a p.price
stays_at styles more stays p a ok e =
    let parts = amount_ok styles p a ok e in stays_one styles more stays p.account a p.price parts.0 parts.1

value_stays : (styles more : List Style) → StaysUnderMore styles more → (p : Posting) (unit : Commodity)
    → is_posting styles p ≡ true
    → value_of (styles ++ more) unit p.amount p.price ≡ value_of styles unit p.amount p.price
value_stays styles more stays p unit ok = mine p.amount refl
  where
    mine : (o : Option (Commodity × ℤ)) → p.amount ≡ o
        → value_of (styles ++ more) unit o p.price ≡ value_of styles unit o p.price
    mine None e = refl
    mine (Some a) e = (stays_at styles more stays p a ok e).worth unit

fault_stays : (styles more : List Style) → StaysUnderMore styles more → (p : Posting) → is_posting styles p ≡ true
    → cost_fault_of (styles ++ more) p.amount p.price ≡ cost_fault_of styles p.amount p.price
fault_stays styles more stays p ok = mine p.amount refl
  where
    mine : (o : Option (Commodity × ℤ)) → p.amount ≡ o
        → cost_fault_of (styles ++ more) o p.price ≡ cost_fault_of styles o p.price
    mine None e = refl
    mine (Some a) e = (stays_at styles more stays p a ok e).fault

sum_stays : (styles more : List Style) → StaysUnderMore styles more → (ps : List Posting) (unit : Commodity)
    → list_all (is_posting styles) ps ≡ true
    → sum_of (styles ++ more) unit ps ≡ sum_of styles unit ps
sum_stays styles more stays [] unit ok = refl
sum_stays styles more stays (p ∷ ps) unit ok =
    let both = and_parts (is_posting styles p) (list_all (is_posting styles) ps) ok in
    ap (λ (z : ℤ). z +ℤ sum_of (styles ++ more) unit ps) (value_stays styles more stays p unit both.0)
    ∙ ap (λ (z : ℤ). value_of styles unit p.amount p.price +ℤ z) (sum_stays styles more stays ps unit both.1)

-- no posting has a value in a commodity that is declared later
rests_stay : (styles more : List Style) → StaysUnderMore styles more → (account : List ℕ) (ps : List Posting)
    → list_all (is_posting styles) ps ≡ true
    → rest_legs (styles ++ more) account ps ≡ rest_legs styles account ps
rests_stay styles more stays account ps ok =
    let f : Commodity → ℤ = λ (u : Commodity). sum_of styles u ps in
    let rest : Commodity → List Leg = λ (u : Commodity). rest_leg account u (f u) in
    rests_same (λ (u : Commodity). sum_of (styles ++ more) u ps) f account (λ u. sum_stays styles more stays ps u ok)
    (declared_commodities (styles ++ more))
    ∙ ap (flat_map rest) (declared-append styles more)
    ∙ flat_map-append rest (declared_commodities styles) (commodities (length styles) (length more))
    ∙ ap (λ (xs : List Leg). flat_map rest (declared_commodities styles) ++ xs)
    (rests_none f account (length styles) (length more) (λ u past. sum_undeclared styles u ps ok past))
    ∙ append-nil (flat_map rest (declared_commodities styles))

even_stays : (styles more : List Style) → StaysUnderMore styles more → (ps : List Posting)
    → list_all (is_posting styles) ps ≡ true
    → is_even (styles ++ more) ps ≡ is_even styles ps
even_stays styles more stays ps ok =
    let f : Commodity → ℤ = λ (u : Commodity). sum_of styles u ps in
    let test : Commodity → Bool = λ (u : Commodity). int_eq (f u) (pos 0) in
    evens_same (λ (u : Commodity). sum_of (styles ++ more) u ps) f (λ u. sum_stays styles more stays ps u ok)
    (declared_commodities (styles ++ more))
    ∙ ap (list_all test) (declared-append styles more)
    ∙ list_all-append test (declared_commodities styles) (commodities (length styles) (length more))
    ∙ ap (λ (b : Bool). list_all test (declared_commodities styles) && b)
    (evens_all f (length styles) (length more) (λ u past. sum_undeclared styles u ps ok past))
    ∙ and_true (list_all test (declared_commodities styles))
  where
    and_true : (b : Bool) → (b && true) ≡ b
    and_true true = refl
    and_true false = refl

posting_stays : (styles more : List Style) → StaysUnderMore styles more → (all : List Posting) (p : Posting)
    → list_all (is_posting styles) all ≡ true → is_posting styles p ≡ true
    → posting_legs (styles ++ more) all p.account p.amount p.price ≡ posting_legs styles all p.account p.amount p.price
posting_stays styles more stays all p every ok = mine p.amount refl
  where
    mine : (o : Option (Commodity × ℤ)) → p.amount ≡ o
        → posting_legs (styles ++ more) all p.account o p.price ≡ posting_legs styles all p.account o p.price
    mine None e = rests_stay styles more stays p.account all every
    mine (Some a) e = (stays_at styles more stays p a ok e).legs

legs_stay : (styles more : List Style) → StaysUnderMore styles more → (all ps : List Posting)
    → list_all (is_posting styles) all ≡ true → list_all (is_posting styles) ps ≡ true
    → legs_among (styles ++ more) all ps ≡ legs_among styles all ps
legs_stay styles more stays all [] every ok = refl
legs_stay styles more stays all (p ∷ ps) every ok =
    let both = and_parts (is_posting styles p) (list_all (is_posting styles) ps) ok in
    ap (λ (xs : List Leg). xs ++ legs_among (styles ++ more) all ps)
    (posting_stays styles more stays all p every both.0)
    ∙ ap (λ (xs : List Leg). posting_legs styles all p.account p.amount p.price ++ xs)
    (legs_stay styles more stays all ps every both.1)

claims_stay : (styles more : List Style) → StaysUnderMore styles more → (all : List Posting) (k : ℕ) (ps : List Posting)
    → list_all (is_posting styles) all ≡ true
    → list_all (is_posting styles) ps ≡ true → claims_among (styles ++ more) all k ps ≡ claims_among styles all k ps
claims_stay styles more stays all k [] every ok = refl
claims_stay styles more stays all k (p ∷ ps) every ok =
    let both = and_parts (is_posting styles p) (list_all (is_posting styles) ps) ok in
    ap (λ (xs : List Leg). placed k p.claim ++ claims_among (styles ++ more) all (k + length xs) ps)
    (posting_stays styles more stays all p every both.0)
    ∙ ap (λ (xs : List Placed). placed k p.claim ++ xs)
    (claims_stay styles more stays all (k + length (posting_legs styles all p.account p.amount p.price)) ps every
    both.1)

costs_stay : (styles more : List Style) → StaysUnderMore styles more → (ps : List Posting)
    → list_all (is_posting styles) ps ≡ true
    → cost_fault (styles ++ more) ps ≡ cost_fault styles ps
costs_stay styles more stays [] ok = refl
costs_stay styles more stays (p ∷ ps) ok =
    let both = and_parts (is_posting styles p) (list_all (is_posting styles) ps) ok in
    ap (λ (o : Option Cause). option_or o (cost_fault (styles ++ more) ps)) (fault_stays styles more stays p both.0)
    ∙ ap (option_or (cost_fault_of styles p.amount p.price)) (costs_stay styles more stays ps both.1)

balancing_stays : (styles more : List Style) → StaysUnderMore styles more → (t : Txn)
    → list_all (is_posting styles) t.postings ≡ true
    → balancing_fault (styles ++ more) t ≡ balancing_fault styles t
unfolding balancing_fault
balancing_stays styles more stays t ok =
    rw (
      costs_stay styles more stays t.postings ok,
      even_stays styles more stays t.postings ok,
      legs_stay styles more stays t.postings t.postings ok ok,
    ) refl

entry_stays : (styles more : List Style) → StaysUnderMore styles more → (t : Txn)
    → list_all (is_posting styles) t.postings ≡ true → entry_of (styles ++ more) t ≡ entry_of styles t
entry_stays styles more stays t ok =
    rw (
      legs_stay styles more stays t.postings t.postings ok ok,
      claims_stay styles more stays t.postings 1 t.postings ok ok,
    ) refl

-- the entry of a transaction, or its fault, is the same under more styles
pub legs_of-append : (styles more : List Style) → StaysUnderMore styles more → (t : Txn)
    → list_all (is_posting styles) t.postings ≡ true → balanced_entry (styles ++ more) t ≡ balanced_entry styles t
unfolding balanced_entry
legs_of-append styles more stays t ok =
    ap (entry_unless (entry_of (styles ++ more) t)) (balancing_stays styles more stays t ok) ∙ ap
    (λ (e : Entry). entry_unless e (balancing_fault styles t)) (entry_stays styles more stays t ok)
