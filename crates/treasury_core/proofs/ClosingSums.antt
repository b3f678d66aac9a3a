-- sums over the postings of a closing, and that they stay within the turnover
use Rattle.std.proofs.Common.{◌≡◌, ◌≤◌, ◌<◌, ℕ, zero, suc, ◌+◌, nat_eq, Bool, true, false, ◌&&◌, ◌||◌, List, [], ◌∷◌}
use Rattle.std.proofs.Common.{◌++◌, ℤ, pos, ◌+ℤ◌, ◌-ℤ◌, refl, ap, ◌∙◌, sym, arith, append_assoc, Option, Some, None}
use Rattle.std.specs.Prelude.{if◌then◌else◌, unsigned_abs, ⊤}
use Rattle.std.specs.Ordering.{int_eq}
use Rattle.std.specs.Cmp.{unsigned_Decides}
use Rattle.std.specs.List.{list_any, flat_map}
use Rattle.std.specs.Str.{bytes_eq}
use Rattle.std.proofs.lemmas.Bool.Decides.{nat_tests}
use Rattle.std.proofs.lemmas.Int.{ints}
use Rattle.std.proofs.lemmas.Bool.{or_parts}
use Rattle.money_core.specs.declared.unit.Unit.{Unit as Commodity}
use Rattle.money_core.specs.declared.day.Day.{Day}
use Rattle.money_core.specs.declared.claim.Claim.{Claim}
use Rattle.money_core.proofs.TestLemmas.{if_zero, zero_from_int_eq}
use Rattle.money_core.proofs.BytesLemmas.{same_bytes, other_bytes}
use Rattle.book_core.specs.declared.account.Reach.TheVariants.{Own}
use Rattle.book_core.specs.declared.entry.Entry.{Entry}
use Rattle.book_core.specs.declared.leg.Leg.{Leg}
use Rattle.book_core.specs.declared.place.Until.{Until}
use Rattle.book_core.specs.declared.place.Until.TheVariants.{Through}
use Rattle.book_core.specs.Place.{is_until}
use Rattle.book_core.specs.Book.{Posted, posted, posted_legs, posted_from, legs_of}
use Rattle.book_core.specs.Balance.{counts, total, balance, value, sum_in, moved, turnover}
use Rattle.book_core.specs.GoodBook.{HasRoom, most_turnover}
use Rattle.book_core.proofs.SumLemmas.{moved-append}
use Rattle.book_core.proofs.BookLemmas.{one_unit}
use Rattle.journal_format.specs.declared.posting.Posting.{Posting}
use Rattle.journal_balance.specs.Legs.{commodities}
use Rattle.journal_balance.specs.Plain.{written_leg, written_legs}
use Rattle.treasury_core.specs.Closing.{through, zero_claim, nonzero_posting, closed_account, held_in}
use Rattle.treasury_core.proofs.ProductLemmas.{same_size}

-- ---- what postings pick

-- the sum of the quantities in a commodity of the legs of which the account passes the test
abbrev pub picked : (List ℕ → Bool) → Commodity → List Leg → ℤ
picked p unit [] = pos 0
picked p unit (x ∷ xs) = (if nat_eq x.unit.0 unit.0 && p x.account then x.qty else pos 0) +ℤ picked p unit xs

pub picked-append : (p : List ℕ → Bool) (unit : Commodity) (xs ys : List Leg)
    → picked p unit (xs ++ ys) ≡ picked p unit xs +ℤ picked p unit ys
picked-append p unit [] ys = omega (arith, ints)
picked-append p unit (x ∷ xs) ys = let h = picked-append p unit xs ys in omega (arith, ints)

pub legs-append : (xs ys : List Posting) → written_legs (xs ++ ys) ≡ written_legs xs ++ written_legs ys
legs-append [] ys = refl
legs-append (x ∷ xs) ys = ap (λ (zs : List Leg). written_leg x.account x.amount ++ zs) (legs-append xs ys) ∙ sym
    (append_assoc (written_leg x.account x.amount) (written_legs xs) (written_legs ys))

and_true : (t : Bool) → (t && true) ≡ t
and_true true = refl
and_true false = refl

pub picked-value : (unit : Commodity) (xs : List Leg) → picked (λ (n : List ℕ). true) unit xs ≡ value unit xs
picked-value unit [] = refl
picked-value unit (x ∷ xs) =
    ap (λ (t : Bool). (if t then x.qty else pos 0) +ℤ picked (λ (n : List ℕ). true) unit xs)
    (and_true (nat_eq x.unit.0 unit.0))
    ∙ ap (λ (z : ℤ). (if nat_eq x.unit.0 unit.0 then x.qty else pos 0) +ℤ z) (picked-value unit xs)

pub picked-sum : (a : List ℕ) (unit : Commodity) (xs : List Leg)
    → picked (λ (n : List ℕ). bytes_eq n a) unit xs ≡ sum_in Own a unit xs
picked-sum a unit [] = refl
picked-sum a unit (x ∷ xs) = ap
    (λ (z : ℤ). (if nat_eq x.unit.0 unit.0 && bytes_eq x.account a then x.qty else pos 0) +ℤ z) (picked-sum a unit xs)

-- ---- one posting

zero_size : (t : Bool) (q : ℤ) → q ≡ pos 0 → (if t then unsigned_abs q else 0) ≡ 0
zero_size true q e = ap unsigned_abs e
zero_size false q e = refl

picked_posting : (p : List ℕ → Bool) (unit v : Commodity) (name : List ℕ) (q : ℤ) (c : Option Claim)
    → picked p unit (written_legs (nonzero_posting name v q c)) ≡ (if nat_eq v.0 unit.0 && p name then q else pos 0)
picked_posting p unit v name q c = by_test (int_eq q (pos 0)) refl
  where
    posting : Posting
    posting = record { status = None; account = name; amount = Some (v, q); price = None; claim = c; comments = [] }

    by_test : (t : Bool) → int_eq q (pos 0) ≡ t
        → picked p unit (written_legs (if t then [] else posting ∷ []))
        ≡ (if nat_eq v.0 unit.0 && p name then q else pos 0)
    by_test true e = sym (if_zero (nat_eq v.0 unit.0 && p name) q (zero_from_int_eq q e))
    by_test false e = omega (arith, ints)

moved_posting : (unit v : Commodity) (name : List ℕ) (q : ℤ) (c : Option Claim)
    → moved unit (written_legs (nonzero_posting name v q c)) ≡ (if nat_eq v.0 unit.0 then unsigned_abs q else 0)
moved_posting unit v name q c = by_test (int_eq q (pos 0)) refl
  where
    posting : Posting
    posting = record { status = None; account = name; amount = Some (v, q); price = None; claim = c; comments = [] }

    by_test : (t : Bool) → int_eq q (pos 0) ≡ t
        → moved unit (written_legs (if t then [] else posting ∷ [])) ≡ (if nat_eq v.0 unit.0 then unsigned_abs q else 0)
    by_test true e = sym (zero_size (nat_eq v.0 unit.0) q (zero_from_int_eq q e))
    by_test false e = omega arith

-- ---- postings of one account, in commodities one after another

abbrev pub spread : List ℕ → (Commodity → ℤ) → (Commodity → Option Claim) → List Commodity → List Posting
spread name g c units = flat_map (λ (unit : Commodity). nonzero_posting name unit (g unit) (c unit)) units

picked_step : (p : List ℕ → Bool) (unit : Commodity) (name : List ℕ) (g : Commodity → ℤ) (c : Commodity → Option Claim)
    (v : Commodity) (vs : List Commodity) →
    picked p unit (written_legs (spread name g c (v ∷ vs)))
    ≡ (if nat_eq v.0 unit.0 && p name then g v else pos 0) +ℤ picked p unit (written_legs (spread name g c vs))
picked_step p unit name g c v vs =
    ap (picked p unit) (legs-append (nonzero_posting name v (g v) (c v)) (spread name g c vs))
    ∙ picked-append p unit (written_legs (nonzero_posting name v (g v) (c v))) (written_legs (spread name g c vs))
    ∙ ap (λ (z : ℤ). z +ℤ picked p unit (written_legs (spread name g c vs))) (picked_posting p unit v name (g v) (c v))

moved_step : (unit : Commodity) (name : List ℕ) (g : Commodity → ℤ) (c : Commodity → Option Claim) (v : Commodity)
    (vs : List Commodity) →
    moved unit (written_legs (spread name g c (v ∷ vs)))
    ≡ (if nat_eq v.0 unit.0 then unsigned_abs (g v) else 0) + moved unit (written_legs (spread name g c vs))
moved_step unit name g c v vs =
    ap (moved unit) (legs-append (nonzero_posting name v (g v) (c v)) (spread name g c vs))
    ∙ moved-append unit (written_legs (nonzero_posting name v (g v) (c v))) (written_legs (spread name g c vs))
    ∙ ap (λ (n : ℕ). n + moved unit (written_legs (spread name g c vs))) (moved_posting unit v name (g v) (c v))

other_number : (n m : ℕ) → m < n → nat_eq n m ≡ false
other_number n m h = grind (arith, nat_tests)

less_number : (n m : ℕ) → n < m → nat_eq n m ≡ false
less_number n m h = grind (arith, nat_tests)

next_number : (n m : ℕ) → n ≤ m → nat_eq n m ≡ false → n + 1 ≤ m
next_number n m h e = grind (arith, nat_tests)

if_other : (t s : Bool) (q : ℤ) → t ≡ false → (if t && s then q else pos 0) ≡ pos 0
if_other t s q e = ap (λ (b : Bool). if b && s then q else pos 0) e

pub picked_before : (p : List ℕ → Bool) (unit : Commodity) (name : List ℕ) (g : Commodity → ℤ)
    (c : Commodity → Option Claim) (n k : ℕ) → unit.0 < n
    → picked p unit (written_legs (spread name g c (commodities n k))) ≡ pos 0
picked_before p unit name g c n zero h = refl
picked_before p unit name g c n (suc k) h =
    let v : Commodity = record { 0 = n } in
    let step = picked_step p unit name g c v (commodities (n + 1) k) in
    let none = if_other (nat_eq n unit.0) (p name) (g v) (other_number n unit.0 h) in
    let later : unit.0 < n + 1 = omega (arith, h) in
    let rest = picked_before p unit name g c (n + 1) k later in
    omega (arith, ints, step, none, rest)

pub picked_behind : (p : List ℕ → Bool) (unit : Commodity) (name : List ℕ) (g : Commodity → ℤ)
    (c : Commodity → Option Claim) (n k : ℕ) → n + k ≤ unit.0
    → picked p unit (written_legs (spread name g c (commodities n k))) ≡ pos 0
picked_behind p unit name g c n zero h = refl
picked_behind p unit name g c n (suc k) h =
    let v : Commodity = record { 0 = n } in
    let step = picked_step p unit name g c v (commodities (n + 1) k) in
    let less : n < unit.0 = omega (arith, h) in
    let none = if_other (nat_eq n unit.0) (p name) (g v) (less_number n unit.0 less) in
    let later : (n + 1) + k ≤ unit.0 = omega (arith, h) in
    let rest = picked_behind p unit name g c (n + 1) k later in
    omega (arith, ints, step, none, rest)

known_at : (p : List ℕ → Bool) (unit : Commodity) (name : List ℕ) (g : Commodity → ℤ) (c : Commodity → Option Claim)
    (n k : ℕ) → n ≤ unit.0 → unit.0 < n + suc k
    → (n + 1 ≤ unit.0 → unit.0 < (n + 1) + k
    → picked p unit (written_legs (spread name g c (commodities (n + 1) k))) ≡ (if p name then g unit else pos 0))
    → (v : Commodity) → v.0 ≡ n → (t : Bool) → nat_eq v.0 unit.0 ≡ t
    → (if t && p name then g v else pos 0) +ℤ picked p unit (written_legs (spread name g c (commodities (n + 1) k)))
    ≡ (if p name then g unit else pos 0)
known_at p unit name g c n k low high more v number true e =
    let same = one_unit v unit e in
    let past : unit.0 < n + 1 = omega (arith, number, (unsigned_Decides v.0 unit.0).0 e) in
    let rest = picked_before p unit name g c (n + 1) k past in
    let own = ap (λ (u : Commodity). if p name then g u else pos 0) same in
    omega (arith, ints, rest, own)
known_at p unit name g c n k low high more v number false e =
    let from : v.0 ≤ unit.0 = omega (arith, number, low) in
    let later : n + 1 ≤ unit.0 = omega (arith, number, next_number v.0 unit.0 from e) in
    let within : unit.0 < (n + 1) + k = omega (arith, high) in
    let rest = more later within in
    omega (arith, ints, rest)

pub picked_known : (p : List ℕ → Bool) (unit : Commodity) (name : List ℕ) (g : Commodity → ℤ)
    (c : Commodity → Option Claim) (n k : ℕ) → n ≤ unit.0 → unit.0 < n + k →
    picked p unit (written_legs (spread name g c (commodities n k))) ≡ (if p name then g unit else pos 0)
picked_known p unit name g c n zero low high = absurd (omega (arith, low, high))
picked_known p unit name g c n (suc k) low high =
    let v : Commodity = record { 0 = n } in
    picked_step p unit name g c v (commodities (n + 1) k)
    ∙ known_at p unit name g c n k low high (λ later within. picked_known p unit name g c (n + 1) k later within) v refl
    (nat_eq n unit.0) refl

moved_before : (unit : Commodity) (name : List ℕ) (g : Commodity → ℤ) (c : Commodity → Option Claim) (n k : ℕ)
    → unit.0 < n → moved unit (written_legs (spread name g c (commodities n k))) ≡ 0
moved_before unit name g c n zero h = refl
moved_before unit name g c n (suc k) h =
    let v : Commodity = record { 0 = n } in
    let step = moved_step unit name g c v (commodities (n + 1) k) in
    let none = ap (λ (b : Bool). if b then unsigned_abs (g v) else 0) (other_number n unit.0 h) in
    let later : unit.0 < n + 1 = omega (arith, h) in
    let rest = moved_before unit name g c (n + 1) k later in
    omega (arith, step, none, rest)

spread_at : (unit : Commodity) (name : List ℕ) (g : Commodity → ℤ) (c : Commodity → Option Claim) (n k : ℕ)
    → moved unit (written_legs (spread name g c (commodities (n + 1) k))) ≤ unsigned_abs (g unit)
    → (v : Commodity) → v.0 ≡ n → (all : ℕ) → (t : Bool) → nat_eq v.0 unit.0 ≡ t
    → all ≡ (if t then unsigned_abs (g v) else 0) + moved unit (written_legs (spread name g c (commodities (n + 1) k)))
    → all ≤ unsigned_abs (g unit)
spread_at unit name g c n k more v number all true e step =
    let past : unit.0 < n + 1 = omega (arith, number, (unsigned_Decides v.0 unit.0).0 e) in
    let rest = moved_before unit name g c (n + 1) k past in
    let own = ap (λ (u : Commodity). unsigned_abs (g u)) (one_unit v unit e) in
    omega (arith, step, rest, own)
spread_at unit name g c n k more v number all false e step = omega (arith, step, more)

pub moved_spread : (unit : Commodity) (name : List ℕ) (g : Commodity → ℤ) (c : Commodity → Option Claim) (n k : ℕ)
    → moved unit (written_legs (spread name g c (commodities n k))) ≤ unsigned_abs (g unit)
moved_spread unit name g c n zero = omega arith
moved_spread unit name g c n (suc k) =
    let v : Commodity = record { 0 = n } in
    spread_at unit name g c n k (moved_spread unit name g c (n + 1) k) v refl
    (moved unit (written_legs (spread name g c (commodities n (suc k))))) (nat_eq n unit.0) refl
    (moved_step unit name g c v (commodities (n + 1) k))

-- equal quantities in each declared commodity
pub same_spread : (name : List ℕ) (g h : Commodity → ℤ) (c : Commodity → Option Claim) (m n k : ℕ) → n + k ≤ m
    → ((unit : Commodity) → unit.0 < m → g unit ≡ h unit)
    → spread name g c (commodities n k) ≡ spread name h c (commodities n k)
same_spread name g h c m n zero fits same = refl
same_spread name g h c m n (suc k) fits same =
    let v : Commodity = record { 0 = n } in
    let known : n < m = omega (arith, fits) in
    let later : (n + 1) + k ≤ m = omega (arith, fits) in
    ap (λ (q : ℤ). nonzero_posting name v q (c v) ++ spread name g c (commodities (n + 1) k)) (same v known)
    ∙ ap (λ (xs : List Posting). nonzero_posting name v (h v) (c v) ++ xs)
    (same_spread name g h c m (n + 1) k later same)

-- ---- closed accounts

-- what those of them that pass the test hold
abbrev pub held_if : (List ℕ → Bool) → List Entry → Day → Commodity → List (List ℕ) → ℤ
held_if p b day unit [] = pos 0
held_if p b day unit (name ∷ names) = (if p name then through b day name unit else pos 0) +ℤ held_if p b day unit names

minus_if : (t : Bool) (q : ℤ) → (if t then pos 0 -ℤ q else pos 0) ≡ pos 0 -ℤ (if t then q else pos 0)
minus_if true q = refl
minus_if false q = refl

closed_step : (p : List ℕ → Bool) (unit : Commodity) (b : List Entry) (day : Day) (units : List Commodity)
    (name : List ℕ) (names : List (List ℕ)) →
    picked p unit (written_legs (flat_map (closed_account b day units) (name ∷ names)))
    ≡ picked p unit (written_legs (closed_account b day units name))
    +ℤ picked p unit (written_legs (flat_map (closed_account b day units) names))
closed_step p unit b day units name names =
    ap (picked p unit) (legs-append (closed_account b day units name) (flat_map (closed_account b day units) names))
    ∙ picked-append p unit (written_legs (closed_account b day units name))
    (written_legs (flat_map (closed_account b day units) names))

pub picked_closed : (p : List ℕ → Bool) (unit : Commodity) (b : List Entry) (day : Day) (m : ℕ) (names : List (List ℕ))
    → unit.0 < m →
    picked p unit (written_legs (flat_map (closed_account b day (commodities 0 m)) names))
    ≡ pos 0 -ℤ held_if p b day unit names
picked_closed p unit b day m [] known = refl
picked_closed p unit b day m (name ∷ names) known =
    let step = closed_step p unit b day (commodities 0 m) name names in
    let low : 0 ≤ unit.0 = omega arith in
    let within : unit.0 < 0 + m = omega (arith, known) in
    let own = picked_known p unit name (λ (u : Commodity). pos 0 -ℤ through b day name u)
    (λ (u : Commodity). Some (zero_claim u)) 0 m low within in
    let back = minus_if (p name) (through b day name unit) in
    let rest = picked_closed p unit b day m names known in
    omega (arith, ints, step, own, back, rest)

pub picked_unknown : (p : List ℕ → Bool) (unit : Commodity) (b : List Entry) (day : Day) (m : ℕ) (names : List (List ℕ))
    → m ≤ unit.0 →
    picked p unit (written_legs (flat_map (closed_account b day (commodities 0 m)) names)) ≡ pos 0
picked_unknown p unit b day m [] unknown = refl
picked_unknown p unit b day m (name ∷ names) unknown =
    let step = closed_step p unit b day (commodities 0 m) name names in
    let past : 0 + m ≤ unit.0 = omega (arith, unknown) in
    let own = picked_behind p unit name (λ (u : Commodity). pos 0 -ℤ through b day name u)
    (λ (u : Commodity). Some (zero_claim u)) 0 m past in
    let rest = picked_unknown p unit b day m names unknown in
    omega (arith, ints, step, own, rest)

pub held_all : (b : List Entry) (day : Day) (unit : Commodity) (names : List (List ℕ))
    → held_if (λ (n : List ℕ). true) b day unit names ≡ held_in b day unit names
held_all b day unit [] = refl
held_all b day unit (name ∷ names) = ap (λ (z : ℤ). through b day name unit +ℤ z) (held_all b day unit names)

-- no account stands twice
abbrev pub AreApart : List (List ℕ) → Type 0
AreApart [] = ⊤
AreApart (name ∷ names) = (list_any (bytes_eq name) names ≡ false) × AreApart names

pub held_none : (a : List ℕ) (b : List Entry) (day : Day) (unit : Commodity) (names : List (List ℕ))
    → list_any (bytes_eq a) names ≡ false → held_if (λ (n : List ℕ). bytes_eq n a) b day unit names ≡ pos 0
held_none a b day unit [] e = refl
held_none a b day unit (name ∷ names) e =
    let both = or_parts (bytes_eq a name) (list_any (bytes_eq a) names) e in
    let own = ap (λ (t : Bool). if t then through b day name unit else pos 0) (other_bytes a name both.0) in
    let rest = held_none a b day unit names both.1 in
    omega (arith, ints, own, rest)

own_at : (a : List ℕ) (b : List Entry) (day : Day) (unit : Commodity) (name : List ℕ) (names : List (List ℕ))
    → list_any (bytes_eq name) names ≡ false → (bytes_eq a name || list_any (bytes_eq a) names) ≡ true
    → (list_any (bytes_eq a) names ≡ true
    → held_if (λ (n : List ℕ). bytes_eq n a) b day unit names ≡ through b day a unit) → (t : Bool)
    → bytes_eq name a ≡ t
    → (if t then through b day name unit else pos 0) +ℤ held_if (λ (n : List ℕ). bytes_eq n a) b day unit names
    ≡ through b day a unit
own_at a b day unit name names apart here more true e =
    let same = same_bytes name a e in
    let rest = held_none a b day unit names (ap (λ (n : List ℕ). list_any (bytes_eq n) names) (sym same) ∙ apart) in
    let own = ap (λ (n : List ℕ). through b day n unit) same in
    omega (arith, ints, rest, own)
own_at a b day unit name names apart here more false e =
    let later : list_any (bytes_eq a) names ≡ true =
    sym (ap (λ (t : Bool). t || list_any (bytes_eq a) names) (other_bytes name a e)) ∙ here in
    let rest = more later in
    omega (arith, ints, rest)

pub held_own : (a : List ℕ) (b : List Entry) (day : Day) (unit : Commodity) (names : List (List ℕ))
    → list_any (bytes_eq a) names ≡ true → AreApart names
    → held_if (λ (n : List ℕ). bytes_eq n a) b day unit names ≡ through b day a unit
held_own a b day unit [] here apart = absurd cc
held_own a b day unit (name ∷ names) here apart =
    own_at a b day unit name names apart.0 here (λ later. held_own a b day unit names later apart.1) (bytes_eq name a)
    refl

-- ---- within the turnover

-- the absolute quantities of the legs that pass the test
abbrev weight : (Posted → Bool) → List Posted → ℕ
weight test [] = 0
weight test (x ∷ xs) = (if test x then unsigned_abs x.leg.qty else 0) + weight test xs

weight-append : (test : Posted → Bool) (xs ys : List Posted) → weight test (xs ++ ys) ≡ weight test xs + weight test ys
weight-append test [] ys = omega arith
weight-append test (x ∷ xs) ys = let h = weight-append test xs ys in omega (arith, h)

abs_add : (x y : ℤ) → unsigned_abs (x +ℤ y) ≤ unsigned_abs x + unsigned_abs y
abs_add x y = omega (arith, ints)

abs_if : (t : Bool) (q : ℤ) → unsigned_abs (if t then q else pos 0) ≡ (if t then unsigned_abs q else 0)
abs_if true q = refl
abs_if false q = refl

abs_total : (test : Posted → Bool) (xs : List Posted) → unsigned_abs (total test xs) ≤ weight test xs
abs_total test [] = omega arith
abs_total test (x ∷ xs) =
    let h = abs_total test xs in
    let add = abs_add (if test x then x.leg.qty else pos 0) (total test xs) in
    let own = abs_if (test x) x.leg.qty in
    omega (arith, h, add, own)

-- a leg of one of the accounts, in the commodity
abbrev meets : List (List ℕ) → Commodity → Until → Posted → Bool
meets names unit limit x =
    (nat_eq x.leg.unit.0 unit.0 && list_any (bytes_eq x.leg.account) names) && is_until limit x.place

one_more : (u r s w : Bool) (n : ℕ) → (r ≡ true → s ≡ false)
    → (if (u && r) && w then n else 0) + (if (u && s) && w then n else 0) ≡ (if (u && (r || s)) && w then n else 0)
one_more false r s w n h = refl
one_more true true true w n h = absurd (let e = h refl in cc)
one_more true true false true n h = omega arith
one_more true true false false n h = omega arith
one_more true false s w n h = omega arith

weight_more : (a : List ℕ) (names : List (List ℕ)) (unit : Commodity) (limit : Until) (xs : List Posted)
    → list_any (bytes_eq a) names ≡ false →
    weight (counts Own a unit limit) xs + weight (meets names unit limit) xs ≡ weight (meets (a ∷ names) unit limit) xs
weight_more a names unit limit [] e = refl
weight_more a names unit limit (x ∷ xs) e =
    let apart : bytes_eq x.leg.account a ≡ true → list_any (bytes_eq x.leg.account) names ≡ false =
    λ same. ap (λ (n : List ℕ). list_any (bytes_eq n) names) (same_bytes x.leg.account a same) ∙ e in
    let own = one_more (nat_eq x.leg.unit.0 unit.0) (bytes_eq x.leg.account a) (list_any (bytes_eq x.leg.account) names)
    (is_until limit x.place) (unsigned_abs x.leg.qty) apart in
    let rest = weight_more a names unit limit xs e in
    omega (arith, own, rest)

less_if : (u s w : Bool) (n : ℕ) → (if (u && s) && w then n else 0) ≤ (if u then n else 0)
less_if false s w n = omega arith
less_if true false w n = omega arith
less_if true true false n = omega arith
less_if true true true n = omega arith

weight_legs : (names : List (List ℕ)) (unit : Commodity) (limit : Until) (day : Day) (n k : ℕ) (legs : List Leg)
    → weight (meets names unit limit) (posted_legs day n k legs) ≤ moved unit legs
weight_legs names unit limit day n k [] = omega arith
weight_legs names unit limit day n k (x ∷ xs) =
    let own = less_if (nat_eq x.unit.0 unit.0) (list_any (bytes_eq x.account) names)
    (is_until limit (record { day = day; entry = n; leg = k })) (unsigned_abs x.qty) in
    let rest = weight_legs names unit limit day n (k + 1) xs in
    omega (arith, own, rest)

weight_entries : (names : List (List ℕ)) (unit : Commodity) (limit : Until) (n : ℕ) (es : List Entry)
    → weight (meets names unit limit) (posted_from n es) ≤ turnover unit es
weight_entries names unit limit n [] = omega arith
weight_entries names unit limit n (e ∷ es) =
    let split = weight-append (meets names unit limit) (posted_legs e.day n 1 e.legs) (posted_from (n + 1) es) in
    let own = weight_legs names unit limit e.day n 1 e.legs in
    let rest = weight_entries names unit limit (n + 1) es in
    omega (arith, split, own, rest, moved-append unit e.legs (legs_of es))

-- the absolute balances of accounts
abbrev sizes : List Entry → Day → Commodity → List (List ℕ) → ℕ
sizes b day unit [] = 0
sizes b day unit (name ∷ names) = unsigned_abs (pos 0 -ℤ through b day name unit) + sizes b day unit names

sizes_weight : (b : List Entry) (day : Day) (unit : Commodity) (names : List (List ℕ)) → AreApart names
    → sizes b day unit names ≤ weight (meets names unit (Through day)) (posted b)
unfolding balance
sizes_weight b day unit [] apart = omega arith
sizes_weight b day unit (name ∷ names) apart =
    let more = weight_more name names unit (Through day) (posted b) apart.0 in
    let own : unsigned_abs (through b day name unit) ≤ weight (counts Own name unit (Through day)) (posted b) =
    abs_total (counts Own name unit (Through day)) (posted b) in
    let back = same_size (through b day name unit) in
    let rest = sizes_weight b day unit names apart.1 in
    omega (arith, more, own, back, rest)

moved_sizes : (b : List Entry) (day : Day) (unit : Commodity) (m : ℕ) (names : List (List ℕ))
    → moved unit (written_legs (flat_map (closed_account b day (commodities 0 m)) names)) ≤ sizes b day unit names
moved_sizes b day unit m [] = omega arith
moved_sizes b day unit m (name ∷ names) =
    let one = closed_account b day (commodities 0 m) name in
    let all = flat_map (closed_account b day (commodities 0 m)) names in
    let step : moved unit (written_legs (one ++ all)) ≡ moved unit (written_legs one) + moved unit (written_legs all) =
    ap (moved unit) (legs-append one all) ∙ moved-append unit (written_legs one) (written_legs all) in
    let own = moved_spread unit name (λ (u : Commodity). pos 0 -ℤ through b day name u)
    (λ (u : Commodity). Some (zero_claim u)) 0 m in
    let rest = moved_sizes b day unit m names in
    omega (arith, step, own, rest)

-- what is closed is no more than the turnover
pub closed_small : (b : List Entry) (day : Day) (unit : Commodity) (m : ℕ) (names : List (List ℕ)) → AreApart names
    → HasRoom b → moved unit (written_legs (flat_map (closed_account b day (commodities 0 m)) names)) ≤ most_turnover
closed_small b day unit m names apart room =
    let one = moved_sizes b day unit m names in
    let two = sizes_weight b day unit names apart in
    let three : weight (meets names unit (Through day)) (posted b) ≤ turnover unit b =
    weight_entries names unit (Through day) 1 b in
    let four = room unit in
    omega (arith, one, two, three, four)

-- no sum passes the sum of the absolute quantities
pub abs_value : (unit : Commodity) (xs : List Leg) → unsigned_abs (value unit xs) ≤ moved unit xs
abs_value unit [] = omega arith
abs_value unit (x ∷ xs) =
    let h = abs_value unit xs in
    let add = abs_add (if nat_eq x.unit.0 unit.0 then x.qty else pos 0) (value unit xs) in
    let own = abs_if (nat_eq x.unit.0 unit.0) x.qty in
    omega (arith, h, add, own)
