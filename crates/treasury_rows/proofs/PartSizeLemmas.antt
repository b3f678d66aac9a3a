-- parts of a transfer within the limit are within it too
use Rattle.std.proofs.Common.{◌≡◌, ◌≤◌, List, [], ◌∷◌, ℤ, pos, ◌-ℤ◌, ◌≤ℤ◌, arith}
use Rattle.std.specs.Prelude.{unsigned_abs}
use Rattle.std.specs.List.{AllByRecursion}
use Rattle.std.proofs.lemmas.Int.{ints}
use Rattle.money_core.specs.Amount.{limit}
use Rattle.money_core.proofs.TestLemmas.{le_from_int_le}
use Rattle.treasury_state.specs.declared.transfer.Part.{Part}
use Rattle.treasury_state.specs.declared.transfer.Transfer.{Transfer}
use Rattle.treasury_state.specs.Transfer.{sum_of_parts}
use Rattle.treasury_state.specs.Good.{HasGoodParts}
use Rattle.treasury_state.proofs.PartLemmas.{IsPositive, all_positive, sum_low, small_from}

-- ---- quantities within the limit

parts_small : (q : ℤ) (ps : List Part) → AllByRecursion IsPositive ps → sum_of_parts ps ≤ℤ q → unsigned_abs q ≤ limit
    → AllByRecursion (λ (p : Part). unsigned_abs p.qty ≤ limit) ps
parts_small q [] h within small = tt
parts_small q (p ∷ ps) h within small =
    let a = le_from_int_le (pos 1) p.qty h.0 in
    let b = sum_low ps h.1 in (
      small_from p.qty q (omega (arith, ints)) (omega (arith, ints)) small,
      parts_small q ps h.1 (omega (arith, ints)) small,
    )

pub all_parts_small : (t : Transfer) → HasGoodParts t → unsigned_abs t.qty ≤ limit
    → AllByRecursion (λ (p : Part). unsigned_abs p.qty ≤ limit) t.parts
all_parts_small t good small =
    parts_small t.qty t.parts (all_positive t.day t.parts good.each)
    (le_from_int_le (sum_of_parts t.parts) t.qty good.within) small

-- what the parts leave is within it
pub rest_small : (t : Transfer) (q : ℤ) → HasGoodParts t → q ≡ t.qty -ℤ sum_of_parts t.parts
    → unsigned_abs t.qty ≤ limit → unsigned_abs q ≤ limit
rest_small t q good e small =
    let a = sum_low t.parts (all_positive t.day t.parts good.each) in
    let b = le_from_int_le (sum_of_parts t.parts) t.qty good.within in
    small_from q t.qty (omega (arith, ints)) (omega (arith, ints)) small
