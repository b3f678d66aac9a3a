-- what the entry of a printable transaction names is declared: the commodities of its legs and of its assertions
use Rattle.std.proofs.Common.{◌≡◌, ℕ, zero, suc, ◌+◌, ◌<◌, ◌≤◌, Bool, true, false, List, [], ◌∷◌, length, ℤ, pos}
use Rattle.std.proofs.Common.{neg_ℤ, refl, ap, ◌∙◌, sym, arith, subst, Option, Some, None, Ok}
use Rattle.std.specs.Prelude.{if◌then◌else◌, unsigned_abs}
use Rattle.std.specs.Ordering.{int_eq}
use Rattle.std.specs.List.{list_all, flat_map, AllByRecursion}
use Rattle.std.proofs.lemmas.Bool.{and_parts}
use Rattle.money_core.specs.declared.style.Style.{Style}
use Rattle.money_core.specs.declared.unit.Unit.{Unit as Commodity}
use Rattle.money_core.specs.declared.price.Price.{Price}
use Rattle.money_core.specs.declared.claim.Claim.{Claim}
use Rattle.money_core.specs.Amount.{limit}
use Rattle.money_core.specs.AmountText.{IsDeclared}
use Rattle.money_core.proofs.ListLemmas.{all-append}
use Rattle.book_core.specs.declared.leg.Leg.{Leg}
use Rattle.book_core.specs.declared.claim.Placed.{Placed}
use Rattle.book_core.specs.declared.entry.Entry.{Entry}
use Rattle.journal_format.specs.declared.posting.Posting.{Posting}
use Rattle.journal_format.specs.declared.txn.Txn.{Txn}
use Rattle.journal_format.specs.Printable.{is_amount, is_price_or_none, is_claim_or_none, is_value, is_posting}
use Rattle.journal_format.proofs.MoreStylesLemmas.{declared_amount}
use Rattle.journal_balance.specs.Legs.{commodities, leg, rest_leg, sum_of, amount_legs, posting_legs, legs_among}
use Rattle.journal_balance.specs.Legs.{placed, claims_among, balanced_entry}
use Rattle.journal_balance.proofs.FaultLemmas.{legs_found}
use Rattle.journal_balance.proofs.LimitLemmas.{amount_ok}
use Rattle.journal_balance.proofs.ValueLemmas.{price_declared}
use Rattle.journal_balance.proofs.ClaimLemmas.{claim_amount}
use Rattle.journal_balance.proofs.EntryLemmas.{entry_small}

-- the commodity of a leg is declared
abbrev IsKnown : List Style → Leg → Type 0
IsKnown styles x = x.unit.0 < length styles

-- an assertion is of a declared commodity, and within the limit
abbrev pub IsSayable : List Style → Placed → Type 0
IsSayable styles p = IsDeclared styles p.claim.unit p.claim.qty

-- a leg that takes what is left
rest_known : (styles : List Style) (account : List ℕ) (f : Commodity → ℤ) (n k : ℕ) → n + k ≤ length styles
    → AllByRecursion (IsKnown styles) (flat_map (λ (u : Commodity). rest_leg account u (f u)) (commodities n k))
rest_known styles account f n zero h = tt
rest_known styles account f n (suc k) h =
    let own : Commodity = record { 0 = n } in
    all-append (IsKnown styles) (rest_leg account own (f own)) _ (by_test (int_eq (f own) (pos 0)))
    (rest_known styles account f (n + 1) k (omega (arith, h)))
  where
    by_test : (t : Bool) → AllByRecursion (IsKnown styles)
        (if t then [] else leg account (record { 0 = n }) (neg_ℤ (f (record { 0 = n }))) ∷ [])
    by_test true = tt
    by_test false = (omega (arith, h), tt)

-- the legs of an amount
amount_legs_known : (styles : List Style) (account : List ℕ) (a : Commodity × ℤ) (p : Option Price)
    → is_amount styles a.0 a.1 ≡ true → is_price_or_none styles p ≡ true
    → AllByRecursion (IsKnown styles) (amount_legs styles account a p)
amount_legs_known styles account a None ok priced = ((declared_amount styles a.0 a.1 ok).known, tt)
amount_legs_known styles account a (Some p) ok priced =
    let known = (declared_amount styles a.0 a.1 ok).known in
    (known, (known, (price_declared styles p priced, tt)))

legs_known : (styles : List Style) (all xs : List Posting) → list_all (is_posting styles) xs ≡ true
    → AllByRecursion (IsKnown styles) (legs_among styles all xs)
legs_known styles all [] ok = tt
legs_known styles all (x ∷ xs) ok =
    let both = and_parts (is_posting styles x) (list_all (is_posting styles) xs) ok in
    all-append (IsKnown styles) (posting_legs styles all x.account x.amount x.price) (legs_among styles all xs)
    (by_amount x.amount refl both.0) (legs_known styles all xs both.1)
  where
    by_amount : (o : Option (Commodity × ℤ)) → x.amount ≡ o → is_posting styles x ≡ true
        → AllByRecursion (IsKnown styles) (posting_legs styles all x.account o x.price)
    by_amount None e one = rest_known styles x.account (λ u. sum_of styles u all) 0 (length styles) (omega arith)
    by_amount (Some a) e one =
        let parts = amount_ok styles x a one e in amount_legs_known styles x.account a x.price parts.0 parts.1

-- the assertions
claim_known : (styles : List Style) (x : Posting) (claim : Claim) → is_posting styles x ≡ true → x.claim ≡ Some claim
    → IsDeclared styles claim.unit claim.qty
claim_known styles x claim one e =
    let a = claim_amount styles x claim one e in
    let value : is_value styles x.amount x.price x.claim ≡ true = (and_parts _ _ (and_parts _ _ one).0).1 in
    let with_amount : is_value styles (Some a.0) x.price x.claim ≡ true =
    ap (λ (o : Option (Commodity × ℤ)). is_value styles o x.price x.claim) (sym a.1) ∙ value in
    let with_claim : is_value styles (Some a.0) x.price (Some claim) ≡ true =
    ap (λ (k : Option Claim). is_value styles (Some a.0) x.price k) (sym e) ∙ with_amount in
    declared_amount styles claim.unit claim.qty (and_parts _ _ with_claim).1

claims_known : (styles : List Style) (all : List Posting) (k : ℕ) (xs : List Posting)
    → list_all (is_posting styles) xs ≡ true
    → AllByRecursion (IsSayable styles) (claims_among styles all k xs)
claims_known styles all k [] ok = tt
claims_known styles all k (x ∷ xs) ok =
    let both = and_parts (is_posting styles x) (list_all (is_posting styles) xs) ok in
    all-append (IsSayable styles) (placed k x.claim) _ (by_claim x.claim refl both.0)
    (claims_known styles all (k + length (posting_legs styles all x.account x.amount x.price)) xs both.1)
  where
    by_claim : (o : Option Claim) → x.claim ≡ o → is_posting styles x ≡ true
        → AllByRecursion (IsSayable styles) (placed k o)
    by_claim None e one = tt
    by_claim (Some claim) e one = (claim_known styles x claim one e, tt)

with_size : (styles : List Style) (xs : List Leg) → AllByRecursion (IsKnown styles) xs
    → AllByRecursion (λ (x : Leg). unsigned_abs x.qty ≤ limit) xs
    → AllByRecursion (λ (x : Leg). IsDeclared styles x.unit x.qty) xs
with_size styles [] h k = tt
with_size styles (x ∷ xs) h k = (record { known = h.0; size = k.0 }, with_size styles xs h.1 k.1)

pub entry_declared : (styles : List Style) (t : Txn) (e : Entry) → list_all (is_posting styles) t.postings ≡ true
    → balanced_entry styles t ≡ Ok e
    → AllByRecursion (λ (x : Leg). IsDeclared styles x.unit x.qty) e.legs
entry_declared styles t e ok h =
    let found = legs_found styles t e h in
    with_size styles e.legs (subst (λ (x : Entry). AllByRecursion (IsKnown styles) x.legs) found.1
    (legs_known styles t.postings t.postings ok)) (entry_small styles t e h)

pub entry_asserts : (styles : List Style) (t : Txn) (e : Entry) → list_all (is_posting styles) t.postings ≡ true
    → balanced_entry styles t ≡ Ok e
    → AllByRecursion (IsSayable styles) e.claims
entry_asserts styles t e ok h =
    let found = legs_found styles t e h in
    subst (λ (x : Entry). AllByRecursion (IsSayable styles) x.claims) found.1
    (claims_known styles t.postings 1 t.postings ok)
