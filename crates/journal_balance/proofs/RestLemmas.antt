-- what is left in one commodity, and in those after it
use Rattle.std.proofs.Common.{◌≡◌, ℕ, ◌+◌, ◌-◌, ◌<◌, ◌≤◌, Bool, true, false, ◌&&◌, ◌||◌, List, [], ◌∷◌, ◌++◌, length, ℤ}
use Rattle.std.proofs.Common.{pos, neg_ℤ, refl, ap, ◌∙◌, sym, subst, arith, append_assoc}
use Rattle.std.specs.Prelude.{nat_lt, unsigned_abs, if◌then◌else◌}
use Rattle.std.specs.Ordering.{int_eq}
use Rattle.std.specs.List.{list_all, list_any, flat_map}
use Rattle.std.proofs.lemmas.Int.{ints}
use Rattle.std.proofs.lemmas.Bool.Decides.{Decides-int_eq, nat_tests}
use Rattle.std.proofs.lemmas.List.Folds.{list_any-append}
use Rattle.std.proofs.lemmas.Bool.{or_parts}
use Rattle.money_core.specs.declared.style.Style.{Style}
use Rattle.money_core.specs.declared.unit.Unit.{Unit as Commodity}
use Rattle.money_core.specs.Amount.{limit}
use Rattle.book_core.specs.declared.leg.Leg.{Leg}
use Rattle.journal_balance.specs.Legs.{commodities, leg, rest_leg, is_large}
use Rattle.journal_balance.proofs.SumLemmas.{commodities_next}

pub even_next : (test : Commodity → Bool) (n m : ℕ) → n < m → test (record { 0 = n }) ≡ true →
    list_all test (commodities n (m - n)) ≡ list_all test (commodities (n + 1) (m - (n + 1)))
even_next test n m h e =
    ap (list_all test) (commodities_next n m h) ∙ ap
    (λ (t : Bool). t && list_all test (commodities (n + 1) (m - (n + 1)))) e

pub even_fails : (test : Commodity → Bool) (n m : ℕ) → n < m → test (record { 0 = n }) ≡ false
    → list_all test (commodities n (m - n)) ≡ false
even_fails test n m h e =
    ap (list_all test) (commodities_next n m h) ∙ ap
    (λ (t : Bool). t && list_all test (commodities (n + 1) (m - (n + 1)))) e

-- the legs of the commodities from a declared one on
pub legs_next : (f : Commodity → List Leg) (n m : ℕ) → n < m →
    flat_map f (commodities n (m - n)) ≡ f (record { 0 = n }) ++ flat_map f (commodities (n + 1) (m - (n + 1)))
legs_next f n m h = ap (flat_map f) (commodities_next n m h)

pub large_next : (f : Commodity → List Leg) (n m : ℕ) → n < m →
    list_any is_large (flat_map f (commodities n (m - n)))
    ≡ (list_any is_large (f (record { 0 = n }))
    || list_any is_large (flat_map f (commodities (n + 1) (m - (n + 1)))))
large_next f n m h = ap (list_any is_large) (legs_next f n m h) ∙ list_any-append is_large (f (record { 0 = n }))
    (flat_map f (commodities (n + 1) (m - (n + 1))))

unsigned_abs-neg : (z : ℤ) → unsigned_abs (neg_ℤ z) ≡ unsigned_abs z
unsigned_abs-neg z = omega (arith, ints)

-- a rest is over the limit exactly where the sum is
pub rest_large : (account : List ℕ) (unit : Commodity) (sum : ℤ)
    → list_any is_large (rest_leg account unit sum) ≡ nat_lt limit (unsigned_abs sum)
rest_large account unit sum = by_test (int_eq sum (pos 0)) refl
  where
    by_test : (t : Bool) → int_eq sum (pos 0) ≡ t
        → list_any is_large (if t then [] else leg account unit (neg_ℤ sum) ∷ []) ≡ nat_lt limit (unsigned_abs sum)
    by_test true e = let zero_sum : sum ≡ pos 0 = (Decides-int_eq sum (pos 0)).0 e in rw zero_sum refl
    by_test false e =
        ap (λ (n : ℕ). nat_lt limit n || false) (unsigned_abs-neg sum) ∙ or_false (nat_lt limit (unsigned_abs sum))
      where
        or_false : (b : Bool) → (b || false) ≡ b
        or_false true = refl
        or_false false = refl

-- where no leg is over the limit, neither is the first rest, nor one after it
pub small_first : (account : List ℕ) (f : Commodity → ℤ) (n m : ℕ) → n < m →
    list_any is_large (flat_map (λ (u : Commodity). rest_leg account u (f u)) (commodities n (m - n))) ≡ false
    → unsigned_abs (f (record { 0 = n })) ≤ limit
small_first account f n m h e =
    let g : Commodity → List Leg = λ (u : Commodity). rest_leg account u (f u) in
    let first = (or_parts _ _ (sym (large_next g n m h) ∙ e)).0 in
    let fits : nat_lt limit (unsigned_abs (f (record { 0 = n }))) ≡ false =
    sym (rest_large account (record { 0 = n }) (f (record { 0 = n }))) ∙ first in
    grind (arith, nat_tests)

pub small_behind : (f : Commodity → List Leg) (n m : ℕ) → n < m →
    list_any is_large (flat_map f (commodities n (m - n))) ≡ false
    → list_any is_large (flat_map f (commodities (n + 1) (m - (n + 1)))) ≡ false
small_behind f n m h e = (or_parts _ _ (sym (large_next f n m h) ∙ e)).1
