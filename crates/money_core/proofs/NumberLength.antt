-- How long a printed number is.
use Rattle.std.proofs.Common.{◌≤◌, ◌<◌, ◌+◌, ◌*◌, ◌/◌, ◌%◌, ◌^◌, ℕ, zero, suc, ◌∷◌, Bool, true, false, not, ◌&&◌}
use Rattle.std.proofs.Common.{length, arith, lit<, inl, inr, length-append, nat_lt}
use Rattle.std.proofs.Math.Nat.{pow-suc, div-le_self}
use Rattle.std.proofs.lemmas.Bool.{cases_Bool, cases_lt, lt-ltb, le-ltb, ne_eqb}
use Rattle.std.proofs.lemmas.Fmt.{length-decimal-le}
use Rattle.money_core.specs.declared.mark.Mark.{Mark}
use Rattle.money_core.specs.Mark.{group_byte}
use Rattle.money_core.specs.Printed.{places, grouped, grouped_within, printed_whole, printed_fraction, printed_number}
use Rattle.money_core.proofs.RoundTrip.{length-places}

quotient_le : (q m : ℕ) → q / m ≤ q
quotient_le q m = omega (arith, div-le_self q m)

grouped_length : (group k turns n : ℕ) → 0 < k → n < 1000 ^ k → n < 2 ^ 64
    → length (grouped_within group turns n) ≤ 4 * k
grouped_length group k zero n some l f = omega arith
grouped_length group zero (suc turns) n some l f = absurd (omega arith)
grouped_length group (suc k) (suc turns) n some l f =
    elim (cases_lt n 1000) [
      | inl small ↦ rw (lt-ltb n 1000 small) (omega (arith, length-decimal-le 3 n (lit< tt) small f))
      | inr large ↦
          let l2 = rw pow-suc at l in
          let k_some : 0 < k = positive k l2 large in
          let rest = grouped_length group k turns (n / 1000) k_some (omega (arith, l2)) (omega arith) in
          rw (le-ltb n 1000 large) (omega (
            arith,
            rest,
            length-append (grouped_within group turns (n / 1000)) (group ∷ places 3 (n % 1000)),
            length-places 3 (n % 1000),
          ))
    ]
  where
    positive : (k : ℕ) → n < 1000 ^ k * 1000 → 1000 ≤ n → 0 < k
    positive zero a b = absurd (omega (arith, a, b))
    positive (suc k) a b = omega arith

whole_length : (mark : Mark) (groups : Bool) (n : ℕ) → n ≤ 10_000_000_000_000_000
    → length (printed_whole mark groups n) ≤ 24
unfolding grouped
whole_length mark true n l = grouped_length (group_byte mark) 6 (n + 1) n (lit< tt) (omega arith) (omega arith)
whole_length mark false n l = omega (arith, length-decimal-le 18 n (lit< tt) (omega arith) (omega arith))

fraction_length : (mark : Mark) (groups : Bool) (decimals q : ℕ)
    → length (printed_fraction mark groups decimals q) ≤ decimals + 1
fraction_length mark groups zero q =
    elim (cases_Bool (groups && not (nat_lt q 1000))) [
      | inl marked ↦ rw marked (omega arith)
      | inr bare ↦ rw bare (omega arith)
    ]
fraction_length mark groups (suc d) q =
    rw (ne_eqb (suc d) 0 (omega arith)) (omega (arith, length-places (suc d) (q % 10 ^ suc d)))

pub number_length : (mark : Mark) (groups : Bool) (decimals q : ℕ) → q ≤ 10_000_000_000_000_000
    → length (printed_number mark groups decimals q) ≤ decimals + 25
number_length mark groups decimals q l =
    omega (
      arith,
      length-append (printed_whole mark groups (q / 10 ^ decimals)) (printed_fraction mark groups decimals q),
      whole_length mark groups (q / 10 ^ decimals) (omega (arith, quotient_le q (10 ^ decimals))),
      fraction_length mark groups decimals q,
    )
