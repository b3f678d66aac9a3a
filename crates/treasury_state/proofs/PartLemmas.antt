-- receipts of a transfer: their sum, what they leave, and one more of them
use Rattle.std.proofs.Common.{◌≡◌, ◌∙◌, ◌≤◌, ◌<◌, ◌+◌, ℕ, Bool, true, false, List, [], ◌∷◌, ◌++◌, length, drop, get_or}
use Rattle.std.proofs.Common.{ℤ, pos, ◌+ℤ◌, ◌-ℤ◌, ◌≤ℤ◌, ap, subst, arith, append-nil, Option, Some, None}
use Rattle.std.specs.Prelude.{if◌then◌else◌, int_le, unsigned_abs}
use Rattle.std.specs.List.{AllByRecursion}
use Rattle.std.specs.declared.cmp.Ordering.TheVariants.{Less}
use Rattle.std.proofs.lemmas.Int.{ints}
use Rattle.book_core.specs.Account.{name_cmp}
use Rattle.book_core.proofs.AccountListLemmas.{names_total}
use Rattle.money_core.specs.Amount.{limit}
use Rattle.money_core.specs.declared.day.Day.{Day}
use Rattle.money_core.proofs.TestLemmas.{le_from_int_le}
use Rattle.money_core.proofs.ListLemmas.{drop_at, all_weaker}
use Rattle.treasury_state.specs.declared.transfer.Part.{Part}
use Rattle.treasury_state.specs.declared.transfer.Receipt.{Receipt}
use Rattle.treasury_state.specs.declared.transfer.Transfer.{Transfer}
use Rattle.treasury_state.specs.Transfer.{sum_of_parts, rest_part, of_rest, receipts_of, left_of, received_by, open_of}
use Rattle.treasury_state.specs.Good.{IsGoodPart, HasGoodParts}

-- ---- sums

pub sum_of-append : (xs ys : List Part) → sum_of_parts (xs ++ ys) ≡ sum_of_parts xs +ℤ sum_of_parts ys
sum_of-append [] ys = omega (arith, ints)
sum_of-append (x ∷ xs) ys = let i = sum_of-append xs ys in omega (arith, ints)

-- of a positive quantity
abbrev pub IsPositive : Part → Type 0
IsPositive p = int_le (pos 1) p.qty ≡ true

pub all_positive : (d : Day) (ps : List Part) → AllByRecursion (IsGoodPart d) ps → AllByRecursion IsPositive ps
all_positive d ps h = all_weaker (IsGoodPart d) IsPositive ps (λ p k. k.positive) h

pub sum_low : (ps : List Part) → AllByRecursion IsPositive ps → pos 0 ≤ℤ sum_of_parts ps
sum_low [] h = omega (arith, ints)
sum_low (p ∷ ps) h = let a = le_from_int_le (pos 1) p.qty h.0 in let b = sum_low ps h.1 in omega (arith, ints)

-- a part by a day, or nothing of it
pub share_low : (b : Bool) (q : ℤ) → int_le (pos 1) q ≡ true → pos 0 ≤ℤ (if b then q else pos 0)
share_low true q h = let k = le_from_int_le (pos 1) q h in omega (arith, ints)
share_low false q h = omega (arith, ints)

pub share_high : (b : Bool) (q : ℤ) → int_le (pos 1) q ≡ true → (if b then q else pos 0) ≤ℤ q
share_high true q h = omega (arith, ints)
share_high false q h = let k = le_from_int_le (pos 1) q h in omega (arith, ints)

-- what was received by a day
pub received_by-append : (xs ys : List Part) (d : Day) → received_by (xs ++ ys) d ≡ received_by xs d +ℤ received_by ys d
received_by-append [] ys d = omega (arith, ints)
received_by-append (x ∷ xs) ys d = let i = received_by-append xs ys d in omega (arith, ints)

pub received_low : (ps : List Part) (d : Day) → AllByRecursion IsPositive ps → pos 0 ≤ℤ received_by ps d
received_low [] d h = omega (arith, ints)
received_low (p ∷ ps) d h =
    let a = share_low (int_le p.day.0 d.0) p.qty h.0 in let b = received_low ps d h.1 in omega (arith, ints)

pub received_high : (ps : List Part) (d : Day) → AllByRecursion IsPositive ps → received_by ps d ≤ℤ sum_of_parts ps
received_high [] d h = omega (arith, ints)
received_high (p ∷ ps) d h =
    let a = share_high (int_le p.day.0 d.0) p.qty h.0 in let b = received_high ps d h.1 in omega (arith, ints)

-- what is open once it was dispatched, by the receipt of the rest
pub open_without : (t : Transfer) (d : Day) → int_le t.day.0 d.0 ≡ true → t.receipt ≡ None
    → open_of t d ≡ t.qty -ℤ received_by t.parts d
open_without t d sent none =
    ap (λ (b : Bool). (if b then t.qty else pos 0) -ℤ received_by (receipts_of t) d) sent
    ∙ (ap (λ (o : Option Receipt). t.qty -ℤ received_by (t.parts ++ of_rest t o) d) none ∙ ap
    (λ (ps : List Part). t.qty -ℤ received_by ps d) (append-nil t.parts))

pub open_with : (t : Transfer) (d : Day) (r : Receipt) (b : Bool) → int_le t.day.0 d.0 ≡ true → t.receipt ≡ Some r
    → int_le r.day.0 d.0 ≡ b
    → open_of t d ≡ (t.qty -ℤ received_by t.parts d) -ℤ (if b then t.qty -ℤ sum_of_parts t.parts else pos 0)
open_with t d r b sent some by =
    let a : open_of t d ≡ t.qty -ℤ received_by (t.parts ++ rest_part t r ∷ []) d =
    ap (λ (c : Bool). (if c then t.qty else pos 0) -ℤ received_by (receipts_of t) d) sent ∙ ap
    (λ (o : Option Receipt). t.qty -ℤ received_by (t.parts ++ of_rest t o) d) some in
    let split = received_by-append t.parts (rest_part t r ∷ []) d in
    let last : received_by (rest_part t r ∷ []) d ≡ (if b then t.qty -ℤ sum_of_parts t.parts else pos 0) +ℤ pos 0 =
    ap (λ (c : Bool). (if c then t.qty -ℤ sum_of_parts t.parts else pos 0) +ℤ pos 0) by in
    omega (arith, ints)

-- the first of the parts that are left
pub sum_more : (ps : List Part) (i : ℕ) (p : Part) → i < length ps → p ≡ get_or ps i p
    → sum_of_parts (drop i ps) ≡ p.qty +ℤ sum_of_parts (drop (i + 1) ps)
sum_more ps i p h is = ap sum_of_parts (drop_at ps i p h is)

pub all_left : (P : Part → Type 0) (ps : List Part) (i : ℕ) (p : Part) → i < length ps → p ≡ get_or ps i p
    → AllByRecursion P (drop i ps) → P p × AllByRecursion P (drop (i + 1) ps)
all_left P ps i p h is all = subst (AllByRecursion P) (drop_at ps i p h is) all

rest_within : (t : Transfer) (o : Option Receipt) → int_le (sum_of_parts t.parts) t.qty ≡ true
    → (sum_of_parts t.parts +ℤ sum_of_parts (of_rest t o)) ≤ℤ t.qty
rest_within t None h = let k = le_from_int_le (sum_of_parts t.parts) t.qty h in omega (arith, ints)
rest_within t (Some r) h = omega (arith, ints)

-- the receipts together are at most the amount
pub received_within : (t : Transfer) → HasGoodParts t → sum_of_parts (receipts_of t) ≤ℤ t.qty
received_within t good = let a = sum_of-append t.parts (of_rest t t.receipt) in let b =
    rest_within t t.receipt good.within in omega (arith, ints)

-- ---- what is left

-- nothing where the rest was received
pub left_some : (t : Transfer) (r : Receipt) → t.receipt ≡ Some r → left_of t ≡ pos 0
left_some t r e =
    let a = sum_of-append t.parts (of_rest t t.receipt) in
    let b : sum_of_parts (of_rest t t.receipt) ≡ (t.qty -ℤ sum_of_parts t.parts) +ℤ pos 0 =
    ap (λ (o : Option Receipt). sum_of_parts (of_rest t o)) e in
    omega (arith, ints)

-- ---- quantities within the limit

pub small_from : (q z : ℤ) → pos 0 ≤ℤ q → q ≤ℤ z → unsigned_abs z ≤ limit → unsigned_abs q ≤ limit
small_from q z low high small = omega (arith, ints)

-- ---- a part put in its place

-- after the key
abbrev pub AreKeysBehind : List ℕ → List Part → Type 0
AreKeysBehind key ps = AllByRecursion (λ (x : Part). name_cmp key x.key ≡ Less) ps

pub keys_after : (a b : List ℕ) (ps : List Part) → name_cmp a b ≡ Less → AreKeysBehind b ps → AreKeysBehind a ps
keys_after a b [] e h = tt
keys_after a b (x ∷ xs) e h = (names_total.trans a b x.key e h.0, keys_after a b xs e h.1)
