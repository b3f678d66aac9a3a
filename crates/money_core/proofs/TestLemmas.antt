-- Tests of numbers, and choices by a test, for each crate above.
use Rattle.std.proofs.Common.{◌≡◌, ◌≤ℤ◌, ℕ, ℤ, pos, Bool, true, false, List, int_le, int_eq, if◌then◌else◌, arith, refl}
use Rattle.std.specs.Cmp.{signed_Decides}
use Rattle.std.proofs.lemmas.Int.{ints}

pub int_le-refl : (z : ℤ) → int_le z z ≡ true
int_le-refl z = grind (arith, ints)

pub int_le-true : (y z : ℤ) → y ≤ℤ z → int_le y z ≡ true
int_le-true y z h = grind (arith, ints)

pub le_from_int_le : (y z : ℤ) → int_le y z ≡ true → y ≤ℤ z
le_from_int_le y z h = grind (arith, ints)

pub zero_from_int_eq : (z : ℤ) → int_eq z (pos 0) ≡ true → z ≡ pos 0
zero_from_int_eq z h = (signed_Decides z (pos 0)).0 h

pub if_zero : (t : Bool) (z : ℤ) → z ≡ pos 0 → (if t then z else pos 0) ≡ pos 0
if_zero true z h = h
if_zero false z h = refl

-- what holds of two texts holds of either
pub if_either : (P : List ℕ → Type 0) (t : Bool) (xs ys : List ℕ) → P xs → P ys → P (if t then xs else ys)
if_either P true xs ys h k = h
if_either P false xs ys h k = k
