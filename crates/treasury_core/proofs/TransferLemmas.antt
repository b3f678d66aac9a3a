-- what holds of transfers, and their order, with one more and with one more receipt; the sum of receipts
use Rattle.std.proofs.Common.{◌≡◌, ℕ, Bool, true, false, cond, List, [], ◌∷◌, subst, Some, ◌∙◌, ◌≤◌, ◌+◌, ◌++◌, ℤ, pos}
use Rattle.std.proofs.Common.{◌+ℤ◌, ◌-ℤ◌, ◌≤ℤ◌, refl, sym, ap, arith, append-nil, true≢false, Option, None}
use Rattle.std.proofs.lemmas.Int.{ints}
use Rattle.std.proofs.lemmas.Bool.{or_parts}
use Rattle.std.specs.Prelude.{if◌then◌else◌, find, int_le}
use Rattle.std.specs.Ordering.{is_lt}
use Rattle.std.specs.List.{list_any, AllByRecursion}
use Rattle.std.specs.Str.{bytes_eq}
use Rattle.std.specs.declared.cmp.Ordering.TheVariants.{Less}
use Rattle.money_core.proofs.BytesLemmas.{bytes_eq-refl}
use Rattle.money_core.proofs.TestLemmas.{le_from_int_le}
use Rattle.book_core.specs.Account.{name_cmp}
use Rattle.book_core.proofs.AccountListLemmas.{is_less, name_after}
use Rattle.treasury_state.specs.declared.transfer.Part.{Part}
use Rattle.treasury_state.specs.declared.transfer.Transfer.{Transfer}
use Rattle.treasury_state.specs.Federation.{Branch, has_name}
use Rattle.treasury_state.specs.Transfer.{has_id, sum_of_parts, of_rest, left_of}
use Rattle.treasury_state.specs.Joined.{inserted, received, with_receipt, put_part}
use Rattle.treasury_state.specs.Good.{IsGoodTransfer, AreKeyed, HasGoodParts, AreAscending}
use Rattle.treasury_state.specs.declared.transfer.Receipt.{Receipt}
use Rattle.treasury_state.proofs.PartLemmas.{all_positive, sum_low, received_within, left_some, AreKeysBehind}
use Rattle.treasury_state.proofs.PartLemmas.{keys_after}
use Rattle.treasury_state.proofs.OrderLemmas.{AreBehind, all_after, not_less}

-- a transfer is one of other branches with the same names
pub other_branches : (bs cs : List Branch) (t : Transfer)
    → ((m : List ℕ) → list_any (has_name m) bs ≡ true → list_any (has_name m) cs ≡ true) → IsGoodTransfer bs t
    → IsGoodTransfer cs t
other_branches bs cs t f h = record {
  id = h.id;
  source = f t.source h.source;
  target = f t.target h.target;
  apart = h.apart;
  positive = h.positive;
  payer = h.payer;
  parts = h.parts;
  rest = h.rest;
}

-- one more transfer, and one more receipt
inserted_at : (P : Transfer → Type 0) (t x : Transfer) (xs ys : List Transfer) (c : Bool) → P t → P x
    → AllByRecursion P xs → AllByRecursion P ys → AllByRecursion P (if c then x ∷ ys else t ∷ x ∷ xs)
inserted_at P t x xs ys true p q h i = (q, i)
inserted_at P t x xs ys false p q h i = (p, (q, h))

pub all-inserted : (P : Transfer → Type 0) (t : Transfer) (ts : List Transfer) → P t → AllByRecursion P ts
    → AllByRecursion P (inserted t ts)
all-inserted P t [] p h = (p, tt)
all-inserted P t (x ∷ xs) p h =
    inserted_at P t x xs (inserted t xs) (is_lt (name_cmp x.id t.id)) p h.0 h.1 (all-inserted P t xs p h.1)

received_at : (P : Transfer → Type 0) (r : Part) (t x : Transfer) (xs ys : List Transfer) (c : Bool)
    → cond c (Some x) (find (has_id t.id) xs) ≡ Some t → P (with_receipt r t) → P x → AllByRecursion P xs
    → (find (has_id t.id) xs ≡ Some t → AllByRecursion P ys)
    → AllByRecursion P (if c then with_receipt r x ∷ xs else x ∷ ys)
received_at P r t x xs ys true e p q h i = (subst (λ y. P (with_receipt r y)) (let k : t ≡ x = cc in k) p, h)
received_at P r t x xs ys false e p q h i = (q, i e)

pub all-received : (P : Transfer → Type 0) (r : Part) (t : Transfer) (ts : List Transfer)
    → find (has_id t.id) ts ≡ Some t → P (with_receipt r t) → AllByRecursion P ts
    → AllByRecursion P (received t.id r ts)
all-received P r t [] e p h = tt
all-received P r t (x ∷ xs) e p h =
    received_at P r t x xs (received t.id r xs) (bytes_eq x.id t.id) e p h.0 h.1 (λ g. all-received P r t xs g p h.1)

-- ---- sums

-- ---- what is left

pub left_low : (t : Transfer) → HasGoodParts t → pos 0 ≤ℤ left_of t
left_low t good = let h = received_within t good in omega (arith, ints)

-- else what the parts leave
pub left_none : (t : Transfer) → t.receipt ≡ None → left_of t ≡ t.qty -ℤ sum_of_parts t.parts
left_none t none = ap (λ (o : Option Receipt). t.qty -ℤ sum_of_parts (t.parts ++ of_rest t o)) none ∙ ap
    (λ (ps : List Part). t.qty -ℤ sum_of_parts ps) (append-nil t.parts)

left_at : (t : Transfer) (o : Option Receipt) → t.receipt ≡ o → HasGoodParts t → pos 0 ≤ℤ t.qty → left_of t ≤ℤ t.qty
left_at t None e good h =
    let a = left_none t e in let b = sum_low t.parts (all_positive t.day t.parts good.each) in omega (arith, ints)
left_at t (Some r) e good h = let a = left_some t r e in omega (arith, ints)

pub left_high : (t : Transfer) → HasGoodParts t → pos 0 ≤ℤ t.qty → left_of t ≤ℤ t.qty
left_high t good h = left_at t t.receipt refl good h

-- where something is left, the rest was not received
pub none_yet : (t : Transfer) (q : ℤ) → int_le (pos 1) q ≡ true → q ≤ℤ left_of t → (o : Option Receipt) → t.receipt ≡ o
    → o ≡ None
none_yet t q positive within None e = refl
none_yet t q positive within (Some r) e =
    absurd (let all = left_some t r e in let one = le_from_int_le (pos 1) q positive in omega (arith, ints))

-- ---- a part put in its place

pub all_put : (P : Part → Type 0) (p : Part) (ps : List Part) → P p → AllByRecursion P ps
    → AllByRecursion P (put_part p ps)
all_put P p [] h k = (h, tt)
all_put P p (x ∷ xs) h k = by_test (is_lt (name_cmp x.key p.key)) (all_put P p xs h k.1)
  where
    by_test : (c : Bool) → AllByRecursion P (put_part p xs)
        → AllByRecursion P (if c then x ∷ put_part p xs else p ∷ x ∷ xs)
    by_test true m = (k.0, m)
    by_test false m = (h, k)

pub sum_put : (p : Part) (ps : List Part) → sum_of_parts (put_part p ps) ≡ p.qty +ℤ sum_of_parts ps
sum_put p [] = refl
sum_put p (x ∷ xs) = by_test (is_lt (name_cmp x.key p.key)) (sum_put p xs)
  where
    by_test : (c : Bool) → sum_of_parts (put_part p xs) ≡ p.qty +ℤ sum_of_parts xs
        → sum_of_parts (if c then x ∷ put_part p xs else p ∷ x ∷ xs) ≡ p.qty +ℤ (x.qty +ℤ sum_of_parts xs)
    by_test true e = omega (arith, ints)
    by_test false e = refl

pub keyed_put : (p : Part) (ps : List Part) → list_any (λ (x : Part). bytes_eq x.key p.key) ps ≡ false → AreKeyed ps
    → AreKeyed (put_part p ps)
keyed_put p [] e h = (tt, tt)
keyed_put p (x ∷ xs) e h =
    let n = or_parts (bytes_eq x.key p.key) (list_any (λ (x : Part). bytes_eq x.key p.key) xs) e in
    by_test (is_lt (name_cmp x.key p.key)) refl (all_put (λ (y : Part). name_cmp x.key y.key ≡ Less) p xs)
    (keyed_put p xs n.1 h.1) n.0
  where
    by_test : (c : Bool) → is_lt (name_cmp x.key p.key) ≡ c
        → (name_cmp x.key p.key ≡ Less → AreKeysBehind x.key xs → AreKeysBehind x.key (put_part p xs))
        → AreKeyed (put_part p xs) → bytes_eq x.key p.key ≡ false
        → AreKeyed (if c then x ∷ put_part p xs else p ∷ x ∷ xs)
    by_test true g put more n = (put (is_less (name_cmp x.key p.key) g) h.0, more)
    by_test false g put more n =
        let not_less : name_cmp x.key p.key ≡ Less → ⊥ = λ k. true≢false (sym (ap is_lt k) ∙ g) in
        let not_same : x.key ≡ p.key → ⊥ = λ k.
        true≢false (sym (bytes_eq-refl p.key) ∙ (ap (λ (m : List ℕ). bytes_eq m p.key) (sym k) ∙ n)) in
        let first = name_after x.key p.key not_less not_same in
        ((first, keys_after p.key x.key xs first h.0), h)

not_same : (a b : List ℕ) → bytes_eq b a ≡ false → b ≡ a → ⊥
not_same a b e h = let k : true ≡ false = sym (bytes_eq-refl a) ∙ (ap (λ (x : List ℕ). bytes_eq x a) (sym h) ∙ e) in cc

sorted_at : (t x : Transfer) (xs : List Transfer) (c : Bool) → is_lt (name_cmp x.id t.id) ≡ c
    → bytes_eq x.id t.id ≡ false → AreAscending (x ∷ xs) → AreAscending (inserted t xs)
    → AreAscending (if c then x ∷ inserted t xs else t ∷ x ∷ xs)
sorted_at t x xs true e f h i =
    (all-inserted (λ (y : Transfer). name_cmp x.id y.id ≡ Less) t xs (is_less (name_cmp x.id t.id) e) h.0, i)
sorted_at t x xs false e f h i = let less =
    name_after x.id t.id (not_less x.id t.id e) (not_same t.id x.id f) in ((less, all_after t.id x.id xs less h.0), h)

pub sorted_inserted : (t : Transfer) (ts : List Transfer) → list_any (has_id t.id) ts ≡ false → AreAscending ts
    → AreAscending (inserted t ts)
sorted_inserted t [] e h = (tt, tt)
sorted_inserted t (x ∷ xs) e h =
    let n = or_parts (bytes_eq x.id t.id) (list_any (has_id t.id) xs) e in
    sorted_at t x xs (is_lt (name_cmp x.id t.id)) refl n.0 h (sorted_inserted t xs n.1 h.1)

-- a receipt leaves the IDs
behind_at : (id : List ℕ) (r : Part) (x : Transfer) (xs ys : List Transfer) (c : Bool) → AreBehind id (x ∷ xs)
    → AreBehind id ys → AreBehind id (if c then with_receipt r x ∷ xs else x ∷ ys)
behind_at id r x xs ys true h i = h
behind_at id r x xs ys false h i = (h.0, i)

behind_received : (id of : List ℕ) (r : Part) (ts : List Transfer) → AreBehind id ts → AreBehind id (received of r ts)
behind_received id of r [] h = tt
behind_received id of r (x ∷ xs) h =
    behind_at id r x xs (received of r xs) (bytes_eq x.id of) h (behind_received id of r xs h.1)

received_in_order : (id : List ℕ) (r : Part) (x : Transfer) (xs ys : List Transfer) (c : Bool) → AreAscending (x ∷ xs)
    → AreBehind x.id ys → AreAscending ys → AreAscending (if c then with_receipt r x ∷ xs else x ∷ ys)
received_in_order id r x xs ys true h k i = h
received_in_order id r x xs ys false h k i = (k, i)

pub sorted_received : (id : List ℕ) (r : Part) (ts : List Transfer) → AreAscending ts → AreAscending (received id r ts)
sorted_received id r [] h = tt
sorted_received id r (x ∷ xs) h =
    received_in_order id r x xs (received id r xs) (bytes_eq x.id id) h (behind_received x.id id r xs h.0)
    (sorted_received id r xs h.1)
