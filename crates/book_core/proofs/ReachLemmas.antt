-- assertions that new legs don't touch
use Rattle.std.proofs.Common.{◌≡◌, ℕ, ◌+◌, ◌<◌, ◌≤◌, Bool, true, false, ◌||◌, ◌&&◌, List, [], ◌∷◌, ◌++◌, length, arith}
use Rattle.std.proofs.Common.{refl, ap, ◌∙◌, sym, nat_eq, Option, None, pos, ◌+ℤ◌}
use Rattle.std.specs.Prelude.{if◌then◌else◌, not, cond, nat_lt, ◌==◌}
use Rattle.std.specs.List.{list_any, AllByRecursion, filter}
use Rattle.std.specs.Ordering.{is_le, nat_cmp, int_cmp, ordering_then, ordering_reverse}
use Rattle.std.specs.declared.cmp.Ordering.{Ordering}
use Rattle.std.specs.declared.cmp.Ordering.TheVariants.{Less, Equal, Greater}
use Rattle.std.proofs.lemmas.Bool.Decides.{nat_tests}
use Rattle.std.proofs.lemmas.Int.{ints}
use Rattle.money_core.specs.declared.unit.Unit.{Unit as Commodity}
use Rattle.money_core.specs.declared.day.Day.{Day}
use Rattle.book_core.specs.declared.leg.Leg.{Leg}
use Rattle.book_core.specs.declared.place.Place.{Place}
use Rattle.book_core.specs.declared.claim.Placed.{Placed}
use Rattle.book_core.specs.declared.entry.Entry.{Entry}
use Rattle.book_core.specs.declared.refusal.Failure.{Failure}
use Rattle.book_core.specs.declared.account.Reach.{Reach}
use Rattle.book_core.specs.declared.place.Until.{Until}
use Rattle.book_core.specs.declared.place.Until.TheVariants.{At}
use Rattle.book_core.specs.Place.{place_le, place_cmp}
use Rattle.book_core.specs.Account.{reaches}
use Rattle.book_core.specs.Book.{Posted, posted_legs, posted_from, posted}
use Rattle.book_core.specs.Balance.{balance, counts, total}
use Rattle.book_core.specs.Claim.{reach_of, is_sole, Asserted, Holds, fault, earlier, first_fault, asserted_claims}
use Rattle.book_core.specs.Claim.{asserted_from, failure}
use Rattle.book_core.specs.Reached.{place_lt, touches, is_touched, is_reached, reached_claims}
use Rattle.std.proofs.lemmas.List.Elements.{All-contains, All-from_recursion}
use Rattle.std.proofs.lemmas.Bool.{or_parts}
use Rattle.std.specs.Prelude.{Contains, ◌↔◌}
use Rattle.money_core.proofs.ListLemmas.{all-append}
use Rattle.book_core.proofs.SumLemmas.{total-append}
use Rattle.book_core.proofs.BookLemmas.{posted_from-append}
use Rattle.book_core.proofs.ClaimLemmas.{places_total, asserted_from-append, first_fault-append}
use Rattle.book_core.proofs.HoldLemmas.{holds_none, none_holds, all_hold}

pub total_none : (test : Posted → Bool) (xs : List Posted) → list_any test xs ≡ false → total test xs ≡ pos 0
total_none test [] h = refl
total_none test (x ∷ xs) h = one (test x) h (total_none test xs)
  where
    one : (t : Bool) → (t || list_any test xs) ≡ false → (list_any test xs ≡ false → total test xs ≡ pos 0)
        → (if t then x.leg.qty else pos 0) +ℤ total test xs ≡ pos 0
    one true e k = absurd (cc)
    one false e k = omega (arith, ints, k e)

pub balance_unreached : (reach : Reach) (b e : List Entry) (account : List ℕ) (unit : Commodity) (limit : Until)
    → list_any (counts reach account unit limit) (posted_from (length b + 1) e) ≡ false
    → balance reach (b ++ e) account unit limit ≡ balance reach b account unit limit
unfolding balance
balance_unreached reach b e account unit limit h =
    ap (total (counts reach account unit limit)) (posted_from-append 1 b e) ∙ total-append
    (counts reach account unit limit) (posted b) (posted_from (length b + 1) e)
    ∙ (let z = total_none (counts reach account unit limit) (posted_from (length b + 1) e) h in omega (arith, ints))

-- ---- places of different entries
then_equal : (a b : Ordering) → ordering_then a b ≡ Equal → b ≡ Equal
then_equal Less b e = absurd (cc)
then_equal Equal b e = e
then_equal Greater b e = absurd (cc)

then_first : (a b : Ordering) → ordering_then a b ≡ Equal → a ≡ Equal
then_first Less b e = absurd (cc)
then_first Equal b e = refl
then_first Greater b e = absurd (cc)

nat_equal : (x y : ℕ) → nat_cmp x y ≡ Equal → x ≡ y
nat_equal x y h = by_tests (nat_lt x y) (x == y) refl h
  where
    by_tests : (t u : Bool) → (x == y) ≡ u → cond t Less (cond u Equal Greater) ≡ Equal → x ≡ y
    by_tests true u e k = absurd (cc)
    by_tests false true e k = grind (arith, nat_tests)
    by_tests false false e k = absurd (cc)

both_le : (o : Ordering) → is_le o ≡ true → is_le (ordering_reverse o) ≡ true → o ≡ Equal
both_le Less e f = absurd (cc)
both_le Equal e f = refl
both_le Greater e f = absurd (cc)

-- a place of another entry that isn't after is before
pub lt_apart : (p q : Place) → q.entry < p.entry → place_le p q ≡ true → place_lt p q ≡ true
lt_apart p q h e = by_test (place_le q p) refl
  where
    same : place_le q p ≡ true → p.entry ≡ q.entry
    same f =
        let o : place_cmp p q ≡ Equal = both_le (place_cmp p q) e (sym (ap is_le (places_total.antisymm q p)) ∙ f) in
        nat_equal p.entry q.entry (then_first (nat_cmp p.entry q.entry) (nat_cmp p.leg q.leg)
        (then_equal (int_cmp p.day.0 q.day.0) _ o))

    by_test : (t : Bool) → place_le q p ≡ t → not t ≡ true
    by_test true f = absurd (let g = same f in omega arith)
    by_test false f = refl

-- ---- a claim of the book that no new leg touches
-- the legs are of later entries
abbrev pub AreAfter : ℕ → List Posted → Type 0
AreAfter n ys = AllByRecursion (λ (y : Posted). n < y.place.entry) ys

after_legs : (m : ℕ) (day : Day) (n k : ℕ) (xs : List Leg) → m < n → AreAfter m (posted_legs day n k xs)
after_legs m day n k [] h = tt
after_legs m day n k (x ∷ xs) h = (h, after_legs m day n (k + 1) xs h)

pub after_entries : (m n : ℕ) (es : List Entry) → m < n → AreAfter m (posted_from n es)
after_entries m n [] h = tt
after_entries m n (e ∷ es) h = all-append _ (posted_legs e.day n 1 e.legs) (posted_from (n + 1) es)
    (after_legs m e.day n 1 e.legs h) (after_entries m (n + 1) es (omega arith))

-- what counts for a claim touches it
touch_one : (x : Asserted) (unit : Commodity) (y : Posted) → x.place.entry < y.place.entry
    → (is_sole x.claim.kind || nat_eq unit.0 x.claim.unit.0) ≡ true → touches x y ≡ false
    → counts (reach_of x.claim.kind) x.account unit (At x.place) y ≡ false
touch_one x unit y h s e = by_tests (nat_eq y.leg.unit.0 unit.0)
    (reaches (reach_of x.claim.kind) x.account y.leg.account) (place_le y.place x.place) refl refl refl
  where
    asked : (t : Bool) → is_sole x.claim.kind ≡ t → nat_eq y.leg.unit.0 unit.0 ≡ true
        → (t || nat_eq unit.0 x.claim.unit.0) ≡ true → (t || nat_eq y.leg.unit.0 x.claim.unit.0) ≡ true
    asked true k f g = refl
    asked false k f g = grind (arith, nat_tests)

    by_tests : (t u v : Bool) → nat_eq y.leg.unit.0 unit.0 ≡ t
        → reaches (reach_of x.claim.kind) x.account y.leg.account ≡ u → place_le y.place x.place ≡ v
        → ((t && u) && v) ≡ false
    by_tests false u v f g k = refl
    by_tests true false v f g k = refl
    by_tests true true false f g k = refl
    by_tests true true true f g k =
        let a = asked (is_sole x.claim.kind) refl f s in
        let l = lt_apart y.place x.place h k in
        absurd (let z : touches x y ≡ true = rw (l, a, g) refl in cc)

none_counts : (x : Asserted) (unit : Commodity) (ys : List Posted) → AreAfter x.place.entry ys
    → (is_sole x.claim.kind || nat_eq unit.0 x.claim.unit.0) ≡ true → list_any (touches x) ys ≡ false
    → list_any (counts (reach_of x.claim.kind) x.account unit (At x.place)) ys ≡ false
none_counts x unit [] h s e = refl
none_counts x unit (y ∷ ys) h s e =
    let p = or_parts (touches x y) (list_any (touches x) ys) e in
    rw (touch_one x unit y h.0 s p.0, none_counts x unit ys h.1 s p.1) refl

same_unit : (t : Bool) (u : ℕ) → (t || nat_eq u u) ≡ true
same_unit true u = refl
same_unit false u = grind (arith, nat_tests)

-- a claim of the book that the new entries don't reach holds with them as it did
pub unreached_holds : (b e : List Entry) (x : Asserted) → x.place.entry < length b + 1
    → is_touched (posted_from (length b + 1) e) x ≡ false → Holds b x → Holds (b ++ e) x
unreached_holds b e x h k holds =
    let ys = posted_from (length b + 1) e in
    let after = after_entries x.place.entry (length b + 1) e h in
    record {
      same = balance_unreached (reach_of x.claim.kind) b e x.account x.claim.unit (At x.place)
          (none_counts x x.claim.unit ys after (same_unit (is_sole x.claim.kind) x.claim.unit.0) k) ∙ holds.same;
      alone = λ s v n. balance_unreached (reach_of x.claim.kind) b e x.account v (At x.place)
          (none_counts x v ys after (ap (λ (t : Bool). t || nat_eq v.0 x.claim.unit.0) s) k) ∙ holds.alone s v n;
    }

unreached_held : (b e : List Entry) (x : Asserted) → x.place.entry < length b + 1
    → is_touched (posted_from (length b + 1) e) x ≡ false → Holds (b ++ e) x → Holds b x
unreached_held b e x h k holds =
    let ys = posted_from (length b + 1) e in
    let after = after_entries x.place.entry (length b + 1) e h in
    record {
      same = sym (balance_unreached (reach_of x.claim.kind) b e x.account x.claim.unit (At x.place)
          (none_counts x x.claim.unit ys after (same_unit (is_sole x.claim.kind) x.claim.unit.0) k)) ∙ holds.same;
      alone = λ s v n. sym (balance_unreached (reach_of x.claim.kind) b e x.account v (At x.place)
          (none_counts x v ys after (ap (λ (t : Bool). t || nat_eq v.0 x.claim.unit.0) s) k)) ∙ holds.alone s v n;
    }

pub unreached_none : (b e : List Entry) (x : Asserted) → x.place.entry < length b + 1
    → is_touched (posted_from (length b + 1) e) x ≡ false → fault b x ≡ None → fault (b ++ e) x ≡ None
unreached_none b e x h k f = holds_none (b ++ e) x (unreached_holds b e x h k (none_holds b x f))

-- ---- the first failure, among the reached claims alone
pub first_filtered : (b : List Entry) (p : Asserted → Bool) (xs : List Asserted)
    → AllByRecursion (λ (x : Asserted). p x ≡ false → fault b x ≡ None) xs
    → first_fault b (filter p xs) ≡ first_fault b xs
first_filtered b p [] h = refl
first_filtered b p (x ∷ xs) h = by_test (p x) refl (first_filtered b p xs h.1)
  where
    by_test : (t : Bool) → p x ≡ t → first_fault b (filter p xs) ≡ first_fault b xs
        → first_fault b (cond t (x ∷ filter p xs) (filter p xs)) ≡ earlier (fault b x) (first_fault b xs)
    by_test true e g = ap (earlier (fault b x)) g
    by_test false e g = rw (h.0 e) g

-- claims are numbered as their entries
abbrev pub AreBelow : ℕ → List Asserted → Type 0
AreBelow n xs = AllByRecursion (λ (x : Asserted). x.place.entry < n) xs

below_claims : (m : ℕ) (day : Day) (n : ℕ) (legs : List Leg) (xs : List Placed) → n < m
    → AreBelow m (asserted_claims day n legs xs)
below_claims m day n legs [] h = tt
below_claims m day n legs (x ∷ xs) h = (h, below_claims m day n legs xs h)

pub below_entries : (m n : ℕ) (es : List Entry) → n + length es ≤ m → AreBelow m (asserted_from n es)
below_entries m n [] h = tt
below_entries m n (e ∷ es) h = all-append _ (asserted_claims e.day n e.legs e.claims) (asserted_from (n + 1) es)
    (below_claims m e.day n e.legs e.claims (omega arith)) (below_entries m (n + 1) es (omega arith))

unreached_all : (b e : List Entry) (xs : List Asserted) → AreBelow (length b + 1) xs
    → AllByRecursion (λ (x : Asserted). fault b x ≡ None) xs
    → AllByRecursion (λ (x : Asserted). is_touched (posted_from (length b + 1) e) x ≡ false → fault (b ++ e) x ≡ None)
    xs
unreached_all b e [] h k = tt
unreached_all b e (x ∷ xs) h k = ((λ f. unreached_none b e x h.0 f k.0), unreached_all b e xs h.1 k.1)

-- where every claim of the book held, the first failure with the new entries is that of a reached claim
pub failure_reached : (b e : List Entry) → failure b ≡ None
    → failure (b ++ e) ≡ first_fault (b ++ e) (reached_claims b e)
unfolding failure
failure_reached b e h =
    let old = asserted_from 1 b in
    let new = asserted_from (length b + 1) e in
    ap (first_fault (b ++ e)) (asserted_from-append 1 b e)
    ∙ first_fault-append (b ++ e) old new
    ∙ ap (λ (f : Option Failure). earlier f (first_fault (b ++ e) new))
    (sym (first_filtered (b ++ e) (is_touched (posted_from (length b + 1) e)) old
    (unreached_all b e old (below_entries (length b + 1) 1 b (omega arith)) (all_hold b old h))))
    ∙ sym (first_fault-append (b ++ e) (filter (is_touched (posted_from (length b + 1) e)) old) new)

-- an assertion of the book that the new entries do not reach holds with them exactly where it did before
pub unreached_law : (b e : List Entry) (x : Asserted) → Contains (asserted_from 1 b) x → is_reached b e x ≡ false
    → Holds b x ↔ Holds (b ++ e) x
unreached_law b e x h k = (unreached_holds b e x below k, unreached_held b e x below k)
  where
    below : x.place.entry < length b + 1
    below =
        let all = below_entries (length b + 1) 1 b (omega arith) in
        All-contains (λ (y : Asserted). y.place.entry < length b + 1) (asserted_from 1 b) x
        (All-from_recursion (λ (y : Asserted). y.place.entry < length b + 1) (asserted_from 1 b) all) h
