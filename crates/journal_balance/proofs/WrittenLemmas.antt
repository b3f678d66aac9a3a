-- a transaction of which everything is written has the entry of its postings as they stand
use Rattle.std.proofs.Common.{◌≡◌, ◌≤◌, ℕ, zero, suc, ◌+◌, Bool, true, false, ◌&&◌, ◌||◌, not, List, [], ◌∷◌, ◌++◌}
use Rattle.std.proofs.Common.{length, ℤ, pos, ◌+ℤ◌, refl, ap, ◌∙◌, sym, arith, Option, Some, None, Ok, true≢false, cond}
use Rattle.std.specs.Prelude.{is_some, nat_lt, unsigned_abs, if◌then◌else◌, Result}
use Rattle.std.specs.Ordering.{int_eq}
use Rattle.std.specs.List.{list_all, list_any, count_by, AllByRecursion}
use Rattle.std.specs.Option.{option_or}
use Rattle.std.proofs.lemmas.Int.{ints}
use Rattle.std.proofs.lemmas.Bool.{and_parts, le-ltb}
use Rattle.std.proofs.lemmas.Bool.Decides.{Decides-int_eq}
use Rattle.money_core.specs.declared.style.Style.{Style}
use Rattle.money_core.specs.declared.unit.Unit.{Unit as Commodity}
use Rattle.money_core.specs.declared.price.Price.{Price}
use Rattle.money_core.specs.declared.cause.Cause.{Cause}
use Rattle.money_core.specs.declared.cause.Cause.TheVariants.{Unbalanced}
use Rattle.book_core.specs.declared.entry.Entry.{Entry}
use Rattle.money_core.specs.Amount.{limit}
use Rattle.book_core.specs.declared.leg.Leg.{Leg}
use Rattle.book_core.specs.declared.claim.Placed.{Placed}
use Rattle.book_core.specs.Balance.{value}
use Rattle.journal_format.specs.declared.posting.Posting.{Posting}
use Rattle.journal_format.specs.declared.txn.Txn.{Txn}
use Rattle.journal_balance.specs.Legs.{commodities, value_of, sum_of, posting_legs, legs_among, placed, claims_among}
use Rattle.journal_balance.specs.Legs.{is_without_amount, is_large, is_even, cost_fault_of, cost_fault, balancing_fault}
use Rattle.journal_balance.specs.Legs.{entry_of}
use Rattle.journal_balance.specs.Legs.{entry_unless, balanced_entry}
use Rattle.journal_balance.specs.Plain.{written_leg, written_legs, written_claims, written_entry, is_written, IsWritten}
use Rattle.journal_balance.proofs.ValueLemmas.{value-append, count-cons}

-- what is said of one posting, by its amount and its cost
record WritesOne (styles : List Style) (all : List Posting) (account : List ℕ) (o : Option (Commodity × ℤ))
    (q : Option Price) : Type 0 where
  legs : posting_legs styles all account o q ≡ written_leg account o
  one : length (posting_legs styles all account o q) ≡ 1
  shut : not (is_some o) ≡ false
  costs : cost_fault_of styles o q ≡ None
  worth : (unit : Commodity) → value unit (written_leg account o) ≡ value_of styles unit o q

writes_one : (styles : List Style) (all : List Posting) (account : List ℕ) (o : Option (Commodity × ℤ))
    (q : Option Price) → (is_some o && not (is_some q)) ≡ true → WritesOne styles all account o q
writes_one styles all account None q h = absurd (true≢false (sym h))
writes_one styles all account (Some a) (Some p) h = absurd (true≢false (sym h))
writes_one styles all account (Some a) None h =
    record { legs = refl; one = refl; shut = refl; costs = refl; worth = λ unit. omega (arith, ints) }

one_of : (styles : List Style) (all : List Posting) (p : Posting) (ps : List Posting)
    → list_all is_written (p ∷ ps) ≡ true → WritesOne styles all p.account p.amount p.price
one_of styles all p ps h =
    writes_one styles all p.account p.amount p.price (and_parts (is_written p) (list_all is_written ps) h).0

rest_of : (p : Posting) (ps : List Posting) → list_all is_written (p ∷ ps) ≡ true → list_all is_written ps ≡ true
rest_of p ps h = (and_parts (is_written p) (list_all is_written ps) h).1

legs_written : (styles : List Style) (all ps : List Posting) → list_all is_written ps ≡ true
    → legs_among styles all ps ≡ written_legs ps
legs_written styles all [] h = refl
legs_written styles all (p ∷ ps) h =
    ap (λ (xs : List Leg). xs ++ legs_among styles all ps) (one_of styles all p ps h).legs ∙ ap
    (λ (xs : List Leg). written_leg p.account p.amount ++ xs) (legs_written styles all ps (rest_of p ps h))

claims_written : (styles : List Style) (all : List Posting) (k : ℕ) (ps : List Posting) → list_all is_written ps ≡ true
    → claims_among styles all k ps ≡ written_claims k ps
claims_written styles all k [] h = refl
claims_written styles all k (p ∷ ps) h =
    ap (λ (n : ℕ). placed k p.claim ++ claims_among styles all (k + n) ps) (one_of styles all p ps h).one ∙ ap
    (λ (xs : List Placed). placed k p.claim ++ xs) (claims_written styles all (k + 1) ps (rest_of p ps h))

none_open : (ps : List Posting) → list_all is_written ps ≡ true
    → (list_any is_without_amount ps ≡ false) × (count_by is_without_amount ps ≡ 0)
none_open [] h = (refl, refl)
none_open (p ∷ ps) h =
    let shut = (one_of [] [] p ps h).shut in
    let later = none_open ps (rest_of p ps h) in (
      ap (λ (b : Bool). b || list_any is_without_amount ps) shut ∙ later.0,
      count-cons p ps ∙ ap (λ (b : Bool). cond b 1 0 + count_by is_without_amount ps) shut
          ∙ ap (λ (n : ℕ). 0 + n) later.1,
    )

no_costs : (styles : List Style) (ps : List Posting) → list_all is_written ps ≡ true → cost_fault styles ps ≡ None
no_costs styles [] h = refl
no_costs styles (p ∷ ps) h = ap (λ (o : Option Cause). option_or o (cost_fault styles ps))
    (one_of styles [] p ps h).costs ∙ no_costs styles ps (rest_of p ps h)

sum_written : (styles : List Style) (ps : List Posting) (unit : Commodity) → list_all is_written ps ≡ true
    → sum_of styles unit ps ≡ value unit (written_legs ps)
sum_written styles [] unit h = refl
sum_written styles (p ∷ ps) unit h =
    let first = (one_of styles [] p ps h).worth unit in
    let later = sum_written styles ps unit (rest_of p ps h) in
    let whole = value-append unit (written_leg p.account p.amount) (written_legs ps) in
    omega (arith, ints, first, later, whole)

all_even : (test : Commodity → Bool) → ((unit : Commodity) → test unit ≡ true) → (n k : ℕ)
    → list_all test (commodities n k) ≡ true
all_even test h n zero = refl
all_even test h n (suc k) =
    ap (λ (b : Bool). b && list_all test (commodities (n + 1) k)) (h (record { 0 = n })) ∙ all_even test h (n + 1) k

none_large : (xs : List Leg) → AllByRecursion (λ (x : Leg). unsigned_abs x.qty ≤ limit) xs
    → list_any is_large xs ≡ false
none_large [] h = refl
none_large (x ∷ xs) h =
    ap (λ (b : Bool). b || list_any is_large xs) (le-ltb limit (unsigned_abs x.qty) h.0) ∙ none_large xs h.1

no_fault : (styles : List Style) (t : Txn) → IsWritten t → balancing_fault styles t ≡ None
unfolding balancing_fault
no_fault styles t h =
    let shut = none_open t.postings h.written in
    let even : is_even styles t.postings ≡ true =
    all_even _ (λ unit.
    (Decides-int_eq (sum_of styles unit t.postings) (pos 0)).1
    (sum_written styles t.postings unit h.written ∙ h.balanced unit)) 0 (length styles) in
    let small : list_any is_large (legs_among styles t.postings t.postings) ≡ false =
    ap (list_any is_large) (legs_written styles t.postings t.postings h.written) ∙ none_large
    (written_legs t.postings) h.small in
    rw (shut.1, no_costs styles t.postings h.written, even, small) (none_left (list_any is_without_amount t.postings))
  where
    none_left : (b : Bool) → (if not b && false then Some Unbalanced else None) ≡ None
    none_left true = refl
    none_left false = refl

pub legs_of-written : (styles : List Style) (t : Txn) → IsWritten t → balanced_entry styles t ≡ Ok (written_entry t)
unfolding balanced_entry
legs_of-written styles t h =
    ap (entry_unless (entry_of styles t)) (no_fault styles t h)
    ∙ ap (λ (xs : List Leg). Ok (record
    { day = t.day; legs = xs; claims = claims_among styles t.postings 1 t.postings }))
    (legs_written styles t.postings t.postings h.written)
    ∙ ap (λ (xs : List Placed). Ok (record { day = t.day; legs = written_legs t.postings; claims = xs }))
    (claims_written styles t.postings 1 t.postings h.written)
