-- A fraction whose parts have a common factor, as a whole number.
use Rattle.std.proofs.Common.{◌≡◌, ◌≤◌, ◌<◌, ◌+◌, ◌-◌, ◌*◌, ◌/◌, ◌%◌, ◌^◌, ◌==◌, ℕ, zero, suc, ℤ, false, arith, refl}
use Rattle.std.proofs.Common.{ap, ◌∙◌, sym, inl, inr, nat_lt, lit<, List, Some}
use Rattle.std.proofs.lemmas.Bool.{cases_lt, lt-ltb, le-ltb, eq-eqb, ne_eqb}
use Rattle.std.proofs.Math.Nat.{mul_assoc, add-mul, mul-lt-mul_of_pos_right, mul-le-mul_right, one-le-pow}
use Rattle.std.proofs.lemmas.Nat.{div-add-mod', mod_below, div-mul-add, mod-mul-add, pow-add}
use Rattle.money_core.specs.Amount.{limit}
use Rattle.std.specs.List.{slice_get}
use Rattle.std.specs.Prelude.{unsigned_abs}
use Rattle.money_core.specs.declared.style.Style.{Style}
use Rattle.money_core.specs.declared.unit.Unit.{Unit as Commodity}
use Rattle.money_core.specs.declared.price.Price.{Price}
use Rattle.money_core.specs.declared.price.Price.TheVariants.{Each}
use Rattle.money_core.specs.Price.{cost_unit}
use Rattle.money_core.specs.Cost.{exact, cost}

-- a number with a factor, by the quotient and the rest of the number
scaled_is : (a b k : ℕ) → a * k ≡ a / b * (b * k) + a % b * k
scaled_is a b k =
    ap (λ (n : ℕ). n * k) (sym (div-add-mod' a b)) ∙
    (add-mul (a / b * b) (a % b) k ∙ ap (λ (n : ℕ). n + a % b * k) (mul_assoc (a / b) b k))

rest_below : (a b k : ℕ) → 0 < b → 0 < k → a % b * k < b * k
rest_below a b k some more = mul-lt-mul_of_pos_right (mod_below a b some) more

scaled_quotient : (a b k : ℕ) → 0 < b → 0 < k → (a * k) / (b * k) ≡ a / b
scaled_quotient a b k some more =
    rw (scaled_is a b k) (div-mul-add (a / b) (b * k) (a % b * k) (rest_below a b k some more))

scaled_rest : (a b k : ℕ) → 0 < b → 0 < k → (a * k) % (b * k) ≡ a % b * k
scaled_rest a b k some more =
    rw (scaled_is a b k) (mod-mul-add (a / b) (b * k) (a % b * k) (rest_below a b k some more))

rest_test : (r k : ℕ) → 0 < k → (r * k == 0) ≡ (r == 0)
rest_test zero k more = eq-eqb (0 * k) 0 (omega arith)
rest_test (suc r) k more = ne_eqb (suc r * k) 0
    (λ e. omega (arith, e, mul-lt-mul_of_pos_right {m = 0} {n = suc r} {k = k} (omega arith) more)) ∙ sym
    (ne_eqb (suc r) 0 (omega arith))

scaled_less : (a b k : ℕ) → 0 < k → nat_lt (a * k) (b * k) ≡ nat_lt a b
scaled_less a b k more =
    elim (cases_lt a b) [
      | inl less ↦ lt-ltb (a * k) (b * k) (mul-lt-mul_of_pos_right less more) ∙ sym (lt-ltb a b less)
      | inr other ↦ le-ltb (a * k) (b * k) (mul-le-mul_right k other) ∙ sym (le-ltb a b other)
    ]

-- A common factor of a fraction's parts changes nothing.
pub exact_scaled : (q : ℤ) (a b k : ℕ) → 0 < b → 0 < k → exact q (a * k) (b * k) ≡ exact q a b
unfolding exact
exact_scaled q a b k some more =
    rw (
      sym (mul_assoc limit b k),
      scaled_less (limit * b) a k more,
      scaled_rest a b k some more,
      rest_test (a % b) k more,
      scaled_quotient a b k some more,
    ) refl

-- the powers of ten of a cost
pub exact_cost : (q : ℤ) (n d s c : ℕ) → c ≤ s → exact q (n * 10 ^ c) (10 ^ (d + s)) ≡ exact q n (10 ^ (d + s - c))
exact_cost q n d s c h =
    let split : d + s ≡ (d + s - c) + c = omega arith in
    let power : 10 ^ (d + s) ≡ 10 ^ (d + s - c) * 10 ^ c = ap (λ (e : ℕ). 10 ^ e) split ∙ pow-add 10 (d + s - c) c in
    rw power (exact_scaled q n (10 ^ (d + s - c)) (10 ^ c) (one-le-pow (d + s - c) 10 (lit< tt))
    (one-le-pow c 10 (lit< tt)))

-- the cost at a unit cost
pub each_cost : (styles : List Style) (q : ℤ) (unit of : Commodity) (p : Price) (own style : Style)
    (digits decimals : ℕ) → p ≡ Each of digits decimals
    → (unit.0 == (cost_unit p).0) ≡ false → slice_get styles unit.0 ≡ Some own
    → slice_get styles (cost_unit p).0 ≡ Some style → style.decimals ≤ decimals
    → exact q (unsigned_abs q * digits) (10 ^ (own.decimals + decimals - style.decimals)) ≡ cost styles q unit p
each_cost styles q unit of p own style digits decimals e other at its h =
    rw (other, at, its, e) (sym (exact_cost q (unsigned_abs q * digits) own.decimals decimals style.decimals h))
