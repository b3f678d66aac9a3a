-- the legs of postings sum to zero in every commodity
use Rattle.std.proofs.Common.{◌≡◌, ◌≢◌, ℕ, zero, suc, ◌+◌, ◌-◌, ◌<◌, ◌≤◌, Bool, true, false, ◌&&◌, not, cond, List, []}
use Rattle.std.proofs.Common.{◌∷◌, ◌++◌, length, ℤ, pos, neg_ℤ, ◌+ℤ◌, nat_eq, refl, ap, ◌∙◌, sym, subst, arith, Option}
use Rattle.std.proofs.Common.{Some, None, Ok, Err, true≢false, ◌||◌}
use Rattle.std.specs.Prelude.{if◌then◌else◌, nat_lt, is_some}
use Rattle.std.specs.Ordering.{int_eq}
use Rattle.std.specs.List.{list_all, list_any, flat_map, count_by, slice_get}
use Rattle.std.proofs.lemmas.Int.{ints}
use Rattle.std.proofs.lemmas.Bool.{and_parts, or_parts, ltb-true, ltb-false}
use Rattle.std.proofs.lemmas.Option.{slice_get_past}
use Rattle.std.proofs.lemmas.List.Sums.{sum_by-cons}
use Rattle.std.proofs.lemmas.Bool.Decides.{Decides-int_eq, nat_tests}
use Rattle.money_core.specs.declared.style.Style.{Style}
use Rattle.money_core.specs.declared.unit.Unit.{Unit as Commodity}
use Rattle.money_core.specs.declared.price.Price.{Price}
use Rattle.money_core.specs.Price.{cost_unit, is_cost, is_price}
use Rattle.money_core.specs.Cost.{cost}
use Rattle.book_core.specs.declared.leg.Leg.{Leg}
use Rattle.book_core.specs.Balance.{value}
use Rattle.book_core.specs.GoodBook.{IsBalanced}
use Rattle.journal_format.specs.declared.posting.Posting.{Posting}
use Rattle.journal_format.specs.Printable.{is_amount, is_price_or_none, is_posting}
use Rattle.journal_balance.specs.Legs.{commodities, declared_commodities, in_unit, cost_value, amount_value, value_of}
use Rattle.journal_balance.specs.Legs.{sum_of, leg}
use Rattle.journal_balance.specs.Legs.{conversion_legs, amount_legs, rest_leg, rest_legs, posting_legs, legs_among}
use Rattle.journal_balance.specs.Legs.{is_without_amount, is_even}
use Rattle.journal_balance.proofs.LimitLemmas.{amount_ok}

pub value-append : (unit : Commodity) (xs ys : List Leg) → value unit (xs ++ ys) ≡ value unit xs +ℤ value unit ys
value-append unit [] ys = omega (arith, ints)
value-append unit (x ∷ xs) ys = let h = value-append unit xs ys in omega (arith, ints)

in_unit-neg : (unit own : Commodity) (q : ℤ) → in_unit unit own (neg_ℤ q) ≡ neg_ℤ (in_unit unit own q)
in_unit-neg unit own q = by_unit (nat_eq own.0 unit.0)
  where
    by_unit : (t : Bool) → (if t then neg_ℤ q else pos 0) ≡ neg_ℤ (if t then q else pos 0)
    by_unit true = refl
    by_unit false = refl

-- the legs of an amount are worth its value
value-amount : (styles : List Style) (unit : Commodity) (account : List ℕ) (a : Commodity × ℤ) (p : Option Price)
    → value unit (amount_legs styles account a p) ≡ amount_value styles unit a p
value-amount styles unit account a None = omega (arith, ints)
value-amount styles unit account a (Some p) = let h = in_unit-neg unit a.0 a.1 in omega (arith, ints)

value-rest_leg : (unit own : Commodity) (account : List ℕ) (sum : ℤ)
    → value unit (rest_leg account own sum) ≡ in_unit unit own (neg_ℤ sum)
value-rest_leg unit own account sum = by_sum (int_eq sum (pos 0)) refl
  where
    zero_rest : (t : Bool) → pos 0 ≡ (if t then pos 0 else pos 0)
    zero_rest true = refl
    zero_rest false = refl

    by_sum : (t : Bool) → int_eq sum (pos 0) ≡ t
        → value unit (if t then [] else leg account own (neg_ℤ sum) ∷ []) ≡ in_unit unit own (neg_ℤ sum)
    by_sum true e =
        let zero_sum : sum ≡ pos 0 = (Decides-int_eq sum (pos 0)).0 e in rw zero_sum (zero_rest (nat_eq own.0 unit.0))
    by_sum false e = omega (arith, ints)

-- the commodities from number n on have no rest in one before them
rest_before : (f : Commodity → ℤ) (account : List ℕ) (unit : Commodity) (n k : ℕ) → unit.0 < n
    → value unit (flat_map (λ (u : Commodity). rest_leg account u (f u)) (commodities n k)) ≡ pos 0
rest_before f account unit n zero h = refl
rest_before f account unit n (suc k) h =
    let own : Commodity = record { 0 = n } in
    let behind = flat_map (λ (u : Commodity). rest_leg account u (f u)) (commodities (n + 1) k) in
    let other : nat_eq n unit.0 ≡ false = grind (arith, nat_tests) in
    let later = rest_before f account unit (n + 1) k (omega (arith, h)) in
    let first : in_unit unit own (neg_ℤ (f own)) ≡ pos 0 =
    ap (λ (t : Bool). if t then neg_ℤ (f own) else pos 0) other in
    value-append unit (rest_leg account own (f own)) behind ∙ ap (λ (z : ℤ). z +ℤ value unit behind)
    (value-rest_leg unit own account (f own) ∙ first) ∙ ap (λ (z : ℤ). pos 0 +ℤ z) later

-- and in one of them what takes the sum to 0
rest_at : (f : Commodity → ℤ) (account : List ℕ) (unit : Commodity) (n k : ℕ) → n ≤ unit.0 → unit.0 < n + k →
    value unit (flat_map (λ (u : Commodity). rest_leg account u (f u)) (commodities n k)) ≡ neg_ℤ (f unit)
rest_at f account unit n zero low high = absurd (omega (arith, low, high))
rest_at f account unit n (suc k) low high = by_unit (nat_eq n unit.0) refl (rest_at f account unit (n + 1) k)
  where
    own : Commodity
    own = record { 0 = n }

    behind : List Leg
    behind = flat_map (λ (u : Commodity). rest_leg account u (f u)) (commodities (n + 1) k)

    parts : value unit (rest_leg account own (f own) ++ behind) ≡ in_unit unit own (neg_ℤ (f own)) +ℤ value unit behind
    parts = value-append unit (rest_leg account own (f own)) behind ∙ ap (λ (z : ℤ). z +ℤ value unit behind)
        (value-rest_leg unit own account (f own))

    by_unit : (t : Bool) → nat_eq n unit.0 ≡ t
        → ((n + 1) ≤ unit.0 → unit.0 < n + 1 + k → value unit behind ≡ neg_ℤ (f unit))
        → value unit (rest_leg account own (f own) ++ behind) ≡ neg_ℤ (f unit)
    by_unit true e later =
        let same : n ≡ unit.0 = grind (arith, nat_tests) in
        let none = rest_before f account unit (n + 1) k (omega (arith, same)) in
        let first : in_unit unit own (neg_ℤ (f own)) ≡ neg_ℤ (f own) =
        ap (λ (t : Bool). if t then neg_ℤ (f own) else pos 0) e in
        let whole : f own ≡ f unit = ap (λ (m : ℕ). f (record { 0 = m })) same in
        let p = parts in omega (arith, ints, p, first, none, whole)
    by_unit false e later =
        let other : n ≢ unit.0 = grind (arith, nat_tests) in
        let rest = later (omega (arith, low, other)) (omega (arith, high)) in
        let first : in_unit unit own (neg_ℤ (f own)) ≡ pos 0 =
        ap (λ (t : Bool). if t then neg_ℤ (f own) else pos 0) e in
        let p = parts in omega (arith, ints, p, first, rest)

-- and none in one after them
rest_after : (f : Commodity → ℤ) (account : List ℕ) (unit : Commodity) (n k : ℕ) → n + k ≤ unit.0
    → value unit (flat_map (λ (u : Commodity). rest_leg account u (f u)) (commodities n k)) ≡ pos 0
rest_after f account unit n zero h = refl
rest_after f account unit n (suc k) h =
    let own : Commodity = record { 0 = n } in
    let behind = flat_map (λ (u : Commodity). rest_leg account u (f u)) (commodities (n + 1) k) in
    let other : nat_eq n unit.0 ≡ false = grind (arith, nat_tests) in
    let later = rest_after f account unit (n + 1) k (omega (arith, h)) in
    let first : in_unit unit own (neg_ℤ (f own)) ≡ pos 0 =
    ap (λ (t : Bool). if t then neg_ℤ (f own) else pos 0) other in
    value-append unit (rest_leg account own (f own)) behind ∙ ap (λ (z : ℤ). z +ℤ value unit behind)
    (value-rest_leg unit own account (f own) ∙ first) ∙ ap (λ (z : ℤ). pos 0 +ℤ z) later

-- the commodity of a price is declared
pub price_declared : (styles : List Style) (p : Price) → is_price styles p ≡ true → (cost_unit p).0 < length styles
price_declared styles p h = by_declared (nat_lt (cost_unit p).0 (length styles)) refl
  where
    by_declared : (t : Bool) → nat_lt (cost_unit p).0 (length styles) ≡ t → (cost_unit p).0 < length styles
    by_declared true e = grind (arith, nat_tests)
    by_declared false e =
        let past : length styles ≤ (cost_unit p).0 = grind (arith, nat_tests) in
        absurd (true≢false (sym h ∙ ap (λ (o : Option Style). is_cost o p)
        (slice_get_past styles (cost_unit p).0 past)))

-- an amount of another commodity is worth nothing in this one
other_value : (unit own : Commodity) (q : ℤ) → nat_eq own.0 unit.0 ≡ false → in_unit unit own q ≡ pos 0
other_value unit own q e = ap (λ (t : Bool). if t then q else pos 0) e

-- postings have values in declared commodities alone
pub sum_undeclared : (styles : List Style) (unit : Commodity) (ps : List Posting)
    → list_all (is_posting styles) ps ≡ true → length styles ≤ unit.0 → sum_of styles unit ps ≡ pos 0
sum_undeclared styles unit [] ok h = refl
sum_undeclared styles unit (p ∷ ps) ok h =
    let both = and_parts (is_posting styles p) (list_all (is_posting styles) ps) ok in
    let later = sum_undeclared styles unit ps both.1 h in
    let first = mine p.amount refl in
    omega (arith, ints, later, first)
  where
    mine : (o : Option (Commodity × ℤ)) → p.amount ≡ o → value_of styles unit o p.price ≡ pos 0
    mine None e = refl
    mine (Some a) e =
        let parts = amount_ok styles p a (and_parts (is_posting styles p) (list_all (is_posting styles) ps) ok).0 e in
        let known : a.0.0 < length styles = let k = (and_parts _ _ parts.0).0 in ltb-true a.0.0 (length styles) k in
        at_price p.price known parts.1
      where
        at_price : (o : Option Price) → a.0.0 < length styles → is_price_or_none styles o ≡ true
            → amount_value styles unit a o ≡ pos 0
        at_price None known priced =
            let other : nat_eq a.0.0 unit.0 ≡ false = grind (arith, nat_tests) in other_value unit a.0 a.1 other
        at_price (Some q) known priced =
            let declared_cost = price_declared styles q priced in
            let other : nat_eq (cost_unit q).0 unit.0 ≡ false = grind (arith, nat_tests) in
            other_value unit (cost_unit q) (cost_value (cost styles a.1 a.0 q)) other

-- one rest of all postings in a commodity
rest_value : (styles : List Style) (account : List ℕ) (all : List Posting) (unit : Commodity)
    → list_all (is_posting styles) all ≡ true
    → value unit (rest_legs styles account all) ≡ neg_ℤ (sum_of styles unit all)
rest_value styles account all unit ok = by_declared (nat_lt unit.0 (length styles)) refl
  where
    by_declared : (t : Bool) → nat_lt unit.0 (length styles) ≡ t
        → value unit (rest_legs styles account all) ≡ neg_ℤ (sum_of styles unit all)
    by_declared true e =
        let within : unit.0 < length styles = grind (arith, nat_tests) in
        rest_at (λ (u : Commodity). sum_of styles u all) account unit 0 (length styles) (omega arith)
        (omega (arith, within))
    by_declared false e =
        let past : length styles ≤ unit.0 = grind (arith, nat_tests) in
        let none = sum_undeclared styles unit all ok past in
        rest_after (λ (u : Commodity). sum_of styles u all) account unit 0 (length styles) (omega (arith, past)) ∙ sym
        (ap neg_ℤ none)

-- no posting without an amount: the legs are worth what the postings are
among_closed : (styles : List Style) (all xs : List Posting) (unit : Commodity) → list_any is_without_amount xs ≡ false
    → value unit (legs_among styles all xs) ≡ sum_of styles unit xs
among_closed styles all [] unit h = refl
among_closed styles all (x ∷ xs) unit h =
    let parts = or_parts (is_without_amount x) (list_any is_without_amount xs) h in
    let later = among_closed styles all xs unit parts.1 in
    let first = mine x.amount parts.0 in
    value-append unit (posting_legs styles all x.account x.amount x.price) (legs_among styles all xs) ∙ omega
    (arith, ints, later, first)
  where
    mine : (o : Option (Commodity × ℤ)) → not (is_some o) ≡ false
        → value unit (posting_legs styles all x.account o x.price) ≡ value_of styles unit o x.price
    mine None e = absurd (true≢false e)
    mine (Some a) e = value-amount styles unit x.account a x.price

pub count-cons : (x : Posting) (xs : List Posting)
    → count_by is_without_amount (x ∷ xs) ≡ cond (is_without_amount x) 1 0 + count_by is_without_amount xs
count-cons x xs = sum_by-cons (λ (p : Posting). cond (is_without_amount p) 1 0) x xs

none_open : (xs : List Posting) → count_by is_without_amount xs ≤ 0 → list_any is_without_amount xs ≡ false
none_open [] h = refl
none_open (x ∷ xs) h = by_open (is_without_amount x) (subst (λ (n : ℕ). n ≤ 0) (count-cons x xs) h) (none_open xs)
  where
    by_open : (t : Bool) → cond t 1 0 + count_by is_without_amount xs ≤ 0
        → (count_by is_without_amount xs ≤ 0 → list_any is_without_amount xs ≡ false)
        → (t || list_any is_without_amount xs) ≡ false
    by_open true k later = absurd (omega (arith, k))
    by_open false k later = later (omega (arith, k))

-- one posting without an amount: the legs are worth nothing after all postings
among_open : (styles : List Style) (all xs : List Posting) (unit : Commodity) → list_all (is_posting styles) all ≡ true
    → list_any is_without_amount xs ≡ true → count_by is_without_amount xs ≤ 1
    → value unit (legs_among styles all xs) ≡ sum_of styles unit xs +ℤ neg_ℤ (sum_of styles unit all)
among_open styles all [] unit ok h few = absurd (true≢false (sym h))
among_open styles all (x ∷ xs) unit ok h few =
    by_amount x.amount h (subst (λ (n : ℕ). n ≤ 1) (count-cons x xs) few) (among_open styles all xs unit ok)
  where
    by_amount : (o : Option (Commodity × ℤ)) → (not (is_some o) || list_any is_without_amount xs) ≡ true
        → cond (not (is_some o)) 1 0 + count_by is_without_amount xs ≤ 1
        → (list_any is_without_amount xs ≡ true → count_by is_without_amount xs ≤ 1
        → value unit (legs_among styles all xs) ≡ sum_of styles unit xs +ℤ neg_ℤ (sum_of styles unit all))
        → value unit (posting_legs styles all x.account o x.price ++ legs_among styles all xs)
        ≡ (value_of styles unit o x.price +ℤ sum_of styles unit xs) +ℤ neg_ℤ (sum_of styles unit all)
    by_amount None some k later =
        let closed = among_closed styles all xs unit (none_open xs (omega (arith, k))) in
        let rest = rest_value styles x.account all unit ok in
        value-append unit (rest_legs styles x.account all) (legs_among styles all xs) ∙ omega
        (arith, ints, closed, rest)
    by_amount (Some a) some k later =
        let behind = later some (omega (arith, k)) in
        let first = value-amount styles unit x.account a x.price in
        value-append unit (amount_legs styles x.account a x.price) (legs_among styles all xs) ∙ omega
        (arith, ints, behind, first)

even_at : (test : Commodity → Bool) (unit : Commodity) (n k : ℕ) → list_all test (commodities n k) ≡ true → n ≤ unit.0
    → unit.0 < n + k → test unit ≡ true
even_at test unit n zero h low high = absurd (omega (arith, low, high))
even_at test unit n (suc k) h low high =
    let parts = and_parts (test (record { 0 = n })) (list_all test (commodities (n + 1) k)) h in
    by_unit (nat_eq n unit.0) refl parts.0 (even_at test unit (n + 1) k parts.1)
  where
    by_unit : (t : Bool) → nat_eq n unit.0 ≡ t → test (record { 0 = n }) ≡ true
        → ((n + 1) ≤ unit.0 → unit.0 < n + 1 + k → test unit ≡ true) → test unit ≡ true
    by_unit true e here later =
        let same : n ≡ unit.0 = grind (arith, nat_tests) in ap (λ (m : ℕ). test (record { 0 = m })) (sym same) ∙ here
    by_unit false e here later =
        let other : n ≢ unit.0 = grind (arith, nat_tests) in later (omega (arith, low, other)) (omega (arith, high))

-- values that sum to zero in every declared commodity sum to zero in every commodity
even_sum : (styles : List Style) (ps : List Posting) (unit : Commodity) → list_all (is_posting styles) ps ≡ true
    → is_even styles ps ≡ true → sum_of styles unit ps ≡ pos 0
even_sum styles ps unit ok h = by_declared (nat_lt unit.0 (length styles)) refl
  where
    by_declared : (t : Bool) → nat_lt unit.0 (length styles) ≡ t → sum_of styles unit ps ≡ pos 0
    by_declared true e =
        let within : unit.0 < length styles = grind (arith, nat_tests) in
        let test : Commodity → Bool = λ (u : Commodity). int_eq (sum_of styles u ps) (pos 0) in
        (Decides-int_eq (sum_of styles unit ps) (pos 0)).0
        (even_at test unit 0 (length styles) h (omega arith) (omega (arith, within)))
    by_declared false e =
        let past : length styles ≤ unit.0 = grind (arith, nat_tests) in sum_undeclared styles unit ps ok past

-- the legs of postings without a fault sum to zero in every commodity
pub legs_balanced : (styles : List Style) (ps : List Posting) → list_all (is_posting styles) ps ≡ true
    → nat_lt 1 (count_by is_without_amount ps) ≡ false
    → (not (list_any is_without_amount ps) && not (is_even styles ps)) ≡ false → IsBalanced (legs_among styles ps ps)
legs_balanced styles ps ok one even unit = by_open (list_any is_without_amount ps) refl even
  where
    not_not : (b : Bool) → not b ≡ false → b ≡ true
    not_not true e = refl
    not_not false e = absurd (true≢false e)

    by_open : (t : Bool) → list_any is_without_amount ps ≡ t → (not t && not (is_even styles ps)) ≡ false
        → value unit (legs_among styles ps ps) ≡ pos 0
    by_open true e h =
        let few : count_by is_without_amount ps ≤ 1 = ltb-false 1 (count_by is_without_amount ps) one in let worth =
        among_open styles ps ps unit ok e few in omega (arith, ints, worth)
    by_open false e h = among_closed styles ps ps unit e ∙ even_sum styles ps unit ok (not_not (is_even styles ps) h)
