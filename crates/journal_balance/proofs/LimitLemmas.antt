-- no amount and no cost is over the limit of a leg
use Rattle.std.proofs.Common.{◌≡◌, ℕ, zero, suc, ◌<◌, ◌≤◌, ◌*◌, ◌/◌, ◌%◌, ◌^◌, ◌+◌, Bool, true, false, ◌&&◌, ◌||◌, not}
use Rattle.std.proofs.Common.{cond, List, [], ◌∷◌, ℤ, pos, negsuc, neg_ℤ, refl, ap, ◌∙◌, sym, subst, arith, true≢false}
use Rattle.std.proofs.Common.{Option, Some, None, Result, Ok, Err, nat_le, nat_lt, ◌==◌}
use Rattle.std.specs.Prelude.{unsigned_abs, if◌then◌else◌, is_some}
use Rattle.std.specs.List.{list_any, slice_get}
use Rattle.std.proofs.lemmas.Int.{ints}
use Rattle.std.proofs.lemmas.Bool.{ltb-false, le-ltb, leb-true, and_parts}
use Rattle.std.proofs.Math.Nat.{div-le_of_le-mul, mul_comm}
use Rattle.std.proofs.lemmas.Bool.Decides.{nat_tests}
use Rattle.money_core.specs.declared.style.Style.{Style}
use Rattle.money_core.specs.declared.unit.Unit.{Unit as Commodity}
use Rattle.money_core.specs.declared.price.Price.{Price}
use Rattle.money_core.specs.declared.price.Price.TheVariants.{Each, Total}
use Rattle.money_core.specs.declared.cause.Cause.{Cause}
use Rattle.money_core.specs.declared.cause.Cause.TheVariants as cause
use Rattle.money_core.specs.declared.claim.Claim.{Claim}
use Rattle.money_core.specs.Amount.{limit}
use Rattle.money_core.specs.Price.{cost_unit, is_cost, is_price}
use Rattle.money_core.specs.Cost.{signed_as, exact, cost_in, cost}
use Rattle.book_core.specs.declared.leg.Leg.{Leg}
use Rattle.journal_format.specs.declared.posting.Posting.{Posting}
use Rattle.journal_format.specs.Printable.{is_amount, is_price_or_none, is_claim_or_none, is_value, is_posting}
use Rattle.journal_balance.specs.Legs.{cost_value, amount_legs, posting_legs, is_large, leg}
use Rattle.journal_balance.specs.Conversion.{symbol_of, conversion_account}

-- within the limit
abbrev pub IsSmall : ℤ → Type 0
IsSmall z = unsigned_abs z ≤ limit

signed_as_small : (q : ℤ) (n : ℕ) → n ≤ limit → IsSmall (signed_as q n)
signed_as_small (pos zero) n h = omega arith
signed_as_small (pos (suc q)) n h = h
signed_as_small (negsuc q) n h = omega (arith, ints)

exact_small : (q : ℤ) (above below : ℕ) → IsSmall (cost_value (exact q above below))
unfolding exact
exact_small q above below = by_limit (nat_lt (limit * below) above) refl
  where
    by_rest : (t : Bool) → above ≤ limit * below
        → IsSmall (cost_value (if t then Err cause.CostNotExact else Ok (signed_as q (above / below))))
    by_rest true h = omega arith
    by_rest false h = signed_as_small q (above / below) (quotient h)
      where
        quotient : above ≤ limit * below → above / below ≤ limit
        quotient k = div-le_of_le-mul below (subst (λ (n : ℕ). above ≤ n) (mul_comm limit below) k)

    by_limit : (t : Bool) → nat_lt (limit * below) above ≡ t
        → IsSmall (cost_value
        (if t then Err cause.Cost
        else (if not (above % below == 0) then Err cause.CostNotExact else Ok (signed_as q (above / below)))))
    by_limit true e = omega arith
    by_limit false e = by_rest (not (above % below == 0)) (ltb-false (limit * below) above e)

zero_small : IsSmall (pos 0)
zero_small = omega arith

cost_in_small : (q : ℤ) (own style : Option Style) (p : Price) → is_cost style p ≡ true
    → IsSmall (cost_value (cost_in q own style p))
cost_in_small q None style p h = zero_small
cost_in_small q (Some own) None p h = zero_small
cost_in_small q (Some own) (Some style) (Each unit digits decimals) h =
    exact_small q (unsigned_abs q * digits * 10 ^ style.decimals) (10 ^ (own.decimals + decimals))
cost_in_small q (Some own) (Some style) (Total unit quantity) h = signed_as_small q quantity (leb-true quantity limit h)

-- no cost is over the limit
pub cost_small : (styles : List Style) (q : ℤ) (unit : Commodity) (p : Price) → is_price styles p ≡ true
    → IsSmall (cost_value (cost styles q unit p))
cost_small styles q unit p h = by_unit (unit.0 == (cost_unit p).0)
  where
    by_unit : (t : Bool) → IsSmall (cost_value
        (if t then Err cause.Cost else cost_in q (slice_get styles unit.0) (slice_get styles (cost_unit p).0) p))
    by_unit true = zero_small
    by_unit false = cost_in_small q (slice_get styles unit.0) (slice_get styles (cost_unit p).0) p h

not_large : (account : List ℕ) (unit : Commodity) (q : ℤ) → IsSmall q → is_large (leg account unit q) ≡ false
not_large account unit q h = le-ltb limit (unsigned_abs q) h

not_large-neg : (account : List ℕ) (unit : Commodity) (q : ℤ) → IsSmall q
    → is_large (leg account unit (neg_ℤ q)) ≡ false
not_large-neg account unit q h =
    let small : unsigned_abs (neg_ℤ q) ≤ limit = omega (arith, ints, h) in le-ltb limit (unsigned_abs (neg_ℤ q)) small

-- no leg of an amount is over the limit
pub amount_legs_small : (styles : List Style) (account : List ℕ) (a : Commodity × ℤ) (p : Option Price)
    → is_amount styles a.0 a.1 ≡ true → is_price_or_none styles p ≡ true
    → list_any is_large (amount_legs styles account a p) ≡ false
amount_legs_small styles account a None ok priced =
    let small = leb-true (unsigned_abs a.1) limit (and_parts _ _ ok).1 in rw (not_large account a.0 a.1 small) refl
amount_legs_small styles account a (Some p) ok priced =
    let small = leb-true (unsigned_abs a.1) limit (and_parts _ _ ok).1 in
    let exchanged = not_large-neg (conversion_account (symbol_of styles a.0) (symbol_of styles (cost_unit p))
    (symbol_of styles a.0)) a.0 a.1 small in
    let value = not_large (conversion_account (symbol_of styles a.0) (symbol_of styles (cost_unit p))
    (symbol_of styles (cost_unit p))) (cost_unit p) (cost_value (cost styles a.1 a.0 p))
    (cost_small styles a.1 a.0 p priced) in
    rw (not_large account a.0 a.1 small, exchanged, value) refl

-- the parts of a posting's value, where it has an amount
pub amount_ok : (styles : List Style) (p : Posting) (a : Commodity × ℤ) → is_posting styles p ≡ true → p.amount ≡ Some a
    → (is_amount styles a.0 a.1 ≡ true) × (is_price_or_none styles p.price ≡ true)
amount_ok styles p a h e =
    let value : is_value styles p.amount p.price p.claim ≡ true = (and_parts _ _ (and_parts _ _ h).0).1 in
    let at : is_value styles (Some a) p.price p.claim ≡ true =
    ap (λ (o : Option (Commodity × ℤ)). is_value styles o p.price p.claim) (sym e) ∙ value in
    and_parts (is_amount styles a.0 a.1) (is_price_or_none styles p.price) (and_parts _ _ at).0

-- of the legs of a posting only those that take what is left can be over the limit
pub posting_legs_small : (styles : List Style) (all : List Posting) (p : Posting) (a : Commodity × ℤ)
    → is_posting styles p ≡ true → p.amount ≡ Some a
    → list_any is_large (posting_legs styles all p.account p.amount p.price) ≡ false
posting_legs_small styles all p a h e =
    let ok = amount_ok styles p a h e in
    ap (λ (o : Option (Commodity × ℤ)). list_any is_large (posting_legs styles all p.account o p.price)) e ∙
    amount_legs_small styles p.account a p.price ok.0 ok.1
