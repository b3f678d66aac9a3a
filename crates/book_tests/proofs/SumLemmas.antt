-- How far the sums of a test may go, from one move to the next.
use Rattle.std.proofs.Common.{ℕ, ◌+◌, ◌≤◌, Bool, true, false, List, arith, subst, sym, ℤ, pos, ◌+ℤ◌}
use Rattle.std.specs.Prelude.{if◌then◌else◌}
use Rattle.std.proofs.lemmas.Int.{ints}
use Rattle.money_core.specs.declared.unit.Unit.{Unit as Commodity}
use Rattle.money_core.specs.declared.day.Day.{Day}
use Rattle.day_sums.specs.declared.sums.DaySums.{DaySums}
use Rattle.day_sums.specs.declared.period.Period.{Period}
use Rattle.day_sums.specs.Points.{IsUpTo}
use Rattle.day_sums.specs.Sums.{period_sum, share_of, SameSums, RaisedSums}

-- every sum is at most m, up or down
abbrev pub AreUpTo : ℕ → DaySums → Type 0
AreUpTo m s = (a : List ℕ) (u : Commodity) (p : Period) → IsUpTo m (period_sum s a u p)

pub zero_up_to : (m : ℕ) → IsUpTo m (pos 0)
zero_up_to m = record { low = omega (arith, ints); high = omega (arith, ints) }

pub small_up_to : (m : ℕ) (z : ℤ) → m ≤ 10000000000000000 → IsUpTo m z → IsUpTo 10000000000000000 z
small_up_to m z l h =
    let a = h.low in let b = h.high in record { low = omega (arith, ints); high = omega (arith, ints) }

-- a quantity that may count or not
share_up_to : (m : ℕ) (q : ℤ) (t : Bool) → IsUpTo m q → IsUpTo m (if t then q else pos 0)
share_up_to m q true h = h
share_up_to m q false h = zero_up_to m

both_up_to : (m n : ℕ) (z q : ℤ) → IsUpTo m z → IsUpTo n q → IsUpTo (m + n) (z +ℤ q)
both_up_to m n z q h k = let a = h.low in let b = h.high in let c = k.low in let d =
    k.high in record { low = omega (arith, ints); high = omega (arith, ints) }

pub same_up_to : (m : ℕ) (old new : DaySums) → SameSums old new → AreUpTo m old → AreUpTo m new
same_up_to m old new same h = λ a u p. subst (IsUpTo m) (sym (same.sums a u p)) (h a u p)

pub raised_up_to : (m n : ℕ) (account : List ℕ) (unit : Commodity) (day : Day) (number : ℕ) (q : ℤ) (old new : DaySums)
    → IsUpTo n q → RaisedSums account unit day number q old new → AreUpTo m old → AreUpTo (m + n) new
raised_up_to m n account unit day number q old new small raised h = λ a u p.
    subst (IsUpTo (m + n)) (sym (raised.sums a u p))
    (both_up_to m n (period_sum old a u p) (share_of account unit day number q a u p) (h a u p)
    (share_up_to n q _ small))
