-- the assertions of a book that new legs touch
use Rattle.std.proofs.Common.{◌≡◌, ℕ, ◌+◌, ◌-◌, ◌<◌, ◌≤◌, Bool, true, false, ◌&&◌, ◌||◌, List, [], ◌∷◌, ◌++◌, length}
use Rattle.std.proofs.Common.{take, get_or, zero, suc, refl, ap, ◌∙◌, sym, subst, arith, ◌⊎◌, inl, inr, ℤ, ◌≤ℤ◌, ◌<ℤ◌}
use Rattle.std.proofs.Common.{nat_eq, Ordering}
use Rattle.std.specs.Prelude.{Contains, not, int_lt, cond}
use Rattle.std.specs.List.{AllByRecursion, list_any, filter}
use Rattle.std.specs.Ordering.{int_cmp, nat_cmp, ordering_then, is_le, is_lt}
use Rattle.std.specs.declared.cmp.Ordering.TheVariants.{Less, Equal, Greater}
use Rattle.std.proofs.lemmas.Int.{ints}
use Rattle.std.proofs.lemmas.Bool.Decides.{nat_tests}
use Rattle.std.proofs.lemmas.List.{take_more}
use Rattle.std.proofs.lemmas.List.Elements.{Contains-append_left, Contains-append_right, Contains-append_cases}
use Rattle.std.proofs.lemmas.List.Elements.{Contains-push_cases}
use Rattle.std.proofs.lemmas.Bool.{and_parts}
use Rattle.money_core.specs.declared.day.Day.{Day}
use Rattle.day_sums.specs.declared.named_spots.NamedSpots.{NamedSpots}
use Rattle.day_sums.specs.declared.spots.Spot.{Spot}
use Rattle.day_sums.specs.Spots.{is_behind, spots_in, spots_of}
use Rattle.book_core.specs.declared.leg.Leg.{Leg}
use Rattle.book_core.specs.declared.place.Place.{Place}
use Rattle.book_core.specs.declared.entry.Entry.{Entry}
use Rattle.book_core.specs.declared.account.Reach.{Reach}
use Rattle.book_core.specs.declared.account.Reach.TheVariants.{Own, Inside}
use Rattle.book_core.specs.declared.claim_index.ClaimIndex.{ClaimIndex}
use Rattle.book_core.specs.Account.{reaches}
use Rattle.book_core.specs.Book.{Posted, legs_of, posted_legs, posted_from}
use Rattle.book_core.specs.Claim.{Asserted, asserted_claims, asserted_from, reach_of, is_sole}
use Rattle.book_core.specs.ClaimIndex.{spot_at, index_part, FindsEach, AreListed}
use Rattle.book_core.specs.Gathered.{IsReachedAt, AreReachedAt, HasReached}
use Rattle.book_core.specs.Reached.{place_lt, touches, is_touched, is_reached}
use Rattle.book_core.proofs.ClaimIndexLemmas.{row_there}
use Rattle.book_core.proofs.ExamineLemmas.{cons_cases, head_in, tail_in, none_in, in_filter, number_entries}
use Rattle.book_core.proofs.ExamineLemmas.{entry_claims, claim_part}

-- ---- tests of lists
pub any_from : {X : Type 0} (p : X → Bool) (xs : List X) → list_any p xs ≡ true → (x : X) × Contains xs x × (p x ≡ true)
any_from {X = X} p [] h = absurd (cc)
any_from {X = X} p (x ∷ xs) h = by_test (p x) refl (λ k. any_from p xs k) h
  where
    by_test : (t : Bool) → p x ≡ t → (list_any p xs ≡ true → (y : X) × Contains xs y × (p y ≡ true))
        → (t || list_any p xs) ≡ true → (y : X) × Contains (x ∷ xs) y × (p y ≡ true)
    by_test true e more k = (x, head_in x xs, e)
    by_test false e more k = let m = more k in (m.0, tail_in x m.0 xs m.1, m.2)

pub any_in : {X : Type 0} (p : X → Bool) (xs : List X) (x : X) → Contains xs x → p x ≡ true → list_any p xs ≡ true
any_in {X = X} p [] x h e = absurd (none_in x h)
any_in {X = X} p (y ∷ ys) x h e = by_case (λ k. any_in p ys x k e) (cons_cases y x ys h)
  where
    or_true : (t : Bool) → (t || true) ≡ true
    or_true true = refl
    or_true false = refl

    by_case : (Contains ys x → list_any p ys ≡ true) → (y ≡ x) ⊎ Contains ys x → (p y || list_any p ys) ≡ true
    by_case more (inl f) = ap (λ (t : Bool). t || list_any p ys) (ap p f ∙ e)
    by_case more (inr k) = ap (λ (t : Bool). p y || t) (more k) ∙ or_true (p y)

-- ---- an assertion of an entry is one of the book
pub claims_in : (n : ℕ) (es : List Entry) (i : ℕ) (e : Entry) (x : Asserted) → i < length es → e ≡ get_or es i e
    → Contains (asserted_claims e.day (n + i) e.legs e.claims) x → Contains (asserted_from n es) x
claims_in n [] i e x l g h = absurd (omega arith)
claims_in n (f ∷ fs) zero e x l g h =
    Contains-append_left (asserted_claims f.day n f.legs f.claims) (asserted_from (n + 1) fs) x
    (subst (λ (y : Entry). Contains (asserted_claims y.day n y.legs y.claims) x) g
    (subst (λ (j : ℕ). Contains (asserted_claims e.day j e.legs e.claims) x) (omega arith) h))
claims_in n (f ∷ fs) (suc i) e x l g h =
    Contains-append_right (asserted_claims f.day n f.legs f.claims) (asserted_from (n + 1) fs) x
    (claims_in (n + 1) fs i e x (omega arith) g
    (subst (λ (j : ℕ). Contains (asserted_claims e.day j e.legs e.claims) x) (omega arith) h))

-- the test of an entry's assertions on a leg
abbrev pub touched_test : ℕ → List Posted → Asserted → Bool
touched_test leg ys x = nat_eq x.place.leg leg && is_touched ys x

pub touched_some : (b e : List Entry) (place : Place) (d : Entry) → place.entry ≡ 1 + (place.entry - 1)
    → place.entry - 1 < length b → d ≡ get_or b (place.entry - 1) d → d.day.0 ≡ place.day.0 →
    list_any (touched_test place.leg (posted_from (length b + 1) e)) (asserted_claims d.day place.entry d.legs d.claims)
    ≡ true → IsReachedAt b e place
touched_some b e place d one l g same h =
    let f = any_from (touched_test place.leg (posted_from (length b + 1) e))
    (asserted_claims d.day place.entry d.legs d.claims) h in
    let both = and_parts (nat_eq (f.0).place.leg place.leg) (is_touched (posted_from (length b + 1) e) f.0) f.2 in
    let p = claim_part d.day place.entry d.legs d.claims f.0 f.1 in
    let leg : (f.0).place.leg ≡ place.leg = let t = both.0 in grind (arith, nat_tests, t) in (
      f.0,
      claims_in 1 b (place.entry - 1) d f.0 l g
          (subst (λ (j : ℕ). Contains (asserted_claims d.day j d.legs d.claims) f.0) one f.1),
      built f.0 (sym (ap (λ (z : Asserted). z.place.day.0) p.2) ∙ same)
          (sym (ap (λ (z : Asserted). z.place.entry) p.2)) leg,
      both.1,
    )
  where
    built : (x : Asserted) → x.place.day.0 ≡ place.day.0 → x.place.entry ≡ place.entry → x.place.leg ≡ place.leg
        → x.place ≡ place
    built x a c k =
        ap (λ (z : ℤ). let w : Place = record { day = record { 0 = z }; entry = x.place.entry; leg = x.place.leg } in w)
        a ∙ ap (λ (n : ℕ). let w : Place = record { day = place.day; entry = n; leg = x.place.leg } in w) c
        ∙ ap (λ (n : ℕ). let w : Place = record { day = place.day; entry = place.entry; leg = n } in w) k

-- an assertion at the place, where its entry is read
pub touched_there : (b e : List Entry) (place : Place) (d : Entry) (x : Asserted) → place.entry ≡ 1 + (place.entry - 1)
    → place.entry - 1 < length b → d ≡ get_or b (place.entry - 1) d → Contains (asserted_from 1 b) x → x.place ≡ place
    → is_reached b e x ≡ true →
    list_any (touched_test place.leg (posted_from (length b + 1) e)) (asserted_claims d.day place.entry d.legs d.claims)
    ≡ true
touched_there b e place d x one l g h s t =
    any_in (touched_test place.leg (posted_from (length b + 1) e)) (asserted_claims d.day place.entry d.legs d.claims) x
    (subst (λ (j : ℕ). Contains (asserted_claims d.day j d.legs d.claims) x) (ap (λ (p : Place). p.entry) s)
    (entry_claims 1 b (place.entry - 1) d x h (ap (λ (p : Place). p.entry) s ∙ one) l g))
    (let f : nat_eq x.place.leg place.leg ≡ true = let k =
    ap (λ (p : Place). p.leg) s in grind (arith, nat_tests, k) in rw (f, t) refl)

-- an assertion at the place has the day of its entry
pub day_there : (b : List Entry) (place : Place) (d : Entry) (x : Asserted) → place.entry ≡ 1 + (place.entry - 1)
    → place.entry - 1 < length b → d ≡ get_or b (place.entry - 1) d → Contains (asserted_from 1 b) x → x.place ≡ place
    → d.day.0 ≡ place.day.0
day_there b place d x one l g h s =
    let p = claim_part d.day x.place.entry d.legs d.claims x
    (entry_claims 1 b (place.entry - 1) d x h (ap (λ (q : Place). q.entry) s ∙ one) l g) in
    ap (λ (z : Asserted). z.place.day.0) p.2 ∙ ap (λ (q : Place). q.day.0) s

-- ---- one more spot
pub reached_more : (b e : List Entry) (old new : List Place) (p : Place) → new ≡ old ++ p ∷ [] → IsReachedAt b e p
    → AreReachedAt b e old → AreReachedAt b e new
reached_more b e old new p f one h q k =
    by_case (Contains-push_cases old p q (subst (λ (ps : List Place). Contains ps q) f k))
  where
    by_case : Contains old q ⊎ (p ≡ q) → IsReachedAt b e q
    by_case (inl m) = h q m
    by_case (inr s) = subst (IsReachedAt b e) s one

pub has_more : (b e : List Entry) (spots : List Spot) (i : ℕ) (s : Spot) (p : Place) (old new : List Place) (r : Bool)
    → i < length spots → get_or spots i s ≡ spot_at p → ((q : Place) → Contains old q → Contains new q)
    → (r ≡ true → Contains new p) →
    ((x : Asserted) → Contains (asserted_from 1 b) x → x.place ≡ p → is_reached b e x ≡ true → r ≡ true)
    → HasReached b e (take i spots) old → HasReached b e (take (i + 1) spots) new
has_more b e spots i s p old new r l at kept put all h x k t m =
    by_case (Contains-push_cases (take i spots) (get_or spots i s) (spot_at x.place)
    (subst (λ (ss : List Spot). Contains ss (spot_at x.place)) (take_more spots i s l) m))
  where
    by_case : Contains (take i spots) (spot_at x.place) ⊎ (get_or spots i s ≡ spot_at x.place) → Contains new x.place
    by_case (inl n) = kept x.place (h x k t n)
    by_case (inr f) =
        let same : p ≡ x.place = ap (λ (c : Spot).
        let w : Place = record { day = c.day; entry = c.number; leg = c.part } in w) (sym at ∙ f) in
        subst (Contains new) same (put (all x k (sym same) t))

-- ---- the spots at which they are looked for
lt_day : (p q : Place) → place_lt p q ≡ true → q.entry < p.entry → p.day.0 <ℤ q.day.0
lt_day p q h l = by_tests (int_lt q.day.0 p.day.0) (int_lt p.day.0 q.day.0) refl refl h
  where
    number : nat_cmp q.entry p.entry ≡ Less
    number = grind (arith, nat_tests)

    by_tests : (t u : Bool) → int_lt q.day.0 p.day.0 ≡ t → int_lt p.day.0 q.day.0 ≡ u
        → not (is_le (ordering_then (cond t Less (cond u Greater Equal))
        (ordering_then (nat_cmp q.entry p.entry) (nat_cmp q.leg p.leg)))) ≡ true → p.day.0 <ℤ q.day.0
    by_tests true u e f k = absurd (cc)
    by_tests false true e f k = grind (arith, ints, f)
    by_tests false false e f k = absurd
        (let m : not (is_le (ordering_then Less (nat_cmp q.leg p.leg))) ≡ true =
        subst (λ (o : Ordering). not (is_le (ordering_then o (nat_cmp q.leg p.leg))) ≡ true) number k in cc)

posted_leg : (day : Day) (n k : ℕ) (legs : List Leg) (y : Posted) → Contains (posted_legs day n k legs) y
    → (y.place.day ≡ day) × (y.place.entry ≡ n) × Contains legs y.leg
posted_leg day n k [] y h = absurd (none_in y h)
posted_leg day n k (x ∷ xs) y h =
    by_case (λ m. posted_leg day n (k + 1) xs y m) (cons_cases first y (posted_legs day n (k + 1) xs) h)
  where
    first : Posted
    first = record { place = record { day = day; entry = n; leg = k }; leg = x }

    by_case : (Contains (posted_legs day n (k + 1) xs) y
        → (y.place.day ≡ day) × (y.place.entry ≡ n) × Contains xs y.leg)
        → (first ≡ y) ⊎ Contains (posted_legs day n (k + 1) xs) y
        → (y.place.day ≡ day) × (y.place.entry ≡ n) × Contains (x ∷ xs) y.leg
    by_case more (inl e) = (
      sym (ap (λ (z : Posted). z.place.day) e),
      sym (ap (λ (z : Posted). z.place.entry) e),
      subst (Contains (x ∷ xs)) (ap (λ (z : Posted). z.leg) e) (head_in x xs),
    )
    by_case more (inr m) = let p = more m in (p.0, p.1, tail_in x y.leg xs p.2)

-- a leg of entries of which none is before a day
posted_entry : (least : Day) (n : ℕ) (es : List Entry) (y : Posted)
    → AllByRecursion (λ (e : Entry). least.0 ≤ℤ e.day.0) es → Contains (posted_from n es) y
    → (least.0 ≤ℤ y.place.day.0) × (n ≤ y.place.entry) × Contains (legs_of es) y.leg
posted_entry least n [] y all h = absurd (none_in y h)
posted_entry least n (e ∷ es) y all h =
    by_case (λ m. posted_entry least (n + 1) es y all.1 m)
    (Contains-append_cases (posted_legs e.day n 1 e.legs) (posted_from (n + 1) es) y h)
  where
    by_case : (Contains (posted_from (n + 1) es) y
        → (least.0 ≤ℤ y.place.day.0) × (n + 1 ≤ y.place.entry) × Contains (legs_of es) y.leg)
        → Contains (posted_legs e.day n 1 e.legs) y ⊎ Contains (posted_from (n + 1) es) y →
        (least.0 ≤ℤ y.place.day.0) × (n ≤ y.place.entry) × Contains (e.legs ++ legs_of es) y.leg
    by_case more (inl m) = let p = posted_leg e.day n 1 e.legs y m in (
      subst (λ (d : Day). least.0 ≤ℤ d.0) (sym p.0) all.0,
      omega (arith, p.1),
      Contains-append_left e.legs (legs_of es) y.leg p.2,
    )
    by_case more (inr m) =
        let p = more m in (p.0, omega (arith, p.1), Contains-append_right e.legs (legs_of es) y.leg p.2)

-- every assertion of a reach that is touched is at a spot after the first day, in the row of an account of which the
-- reach takes in one of the legs
pub touched_place : (reach : Reach) (b e : List Entry) (index : ClaimIndex) (part : NamedSpots) (rows : List ℕ)
    (least : Day) (places : List Place) → part ≡ index_part reach index
    → FindsEach index (asserted_from 1 b) → AllByRecursion (λ (d : Entry). least.0 ≤ℤ d.day.0) e
    → AreListed reach rows part (legs_of e) →
    ((n : ℕ) → Contains rows n → HasReached b e (filter (is_behind least) (spots_in part n)) places) → (x : Asserted)
    → Contains (asserted_from 1 b) x → reach_of x.claim.kind ≡ reach → is_reached b e x ≡ true
    → Contains places x.place
touched_place reach b e index part rows least places same found first listed all x h looks t =
    let f = any_from (touches x) (posted_from (length b + 1) e) t in
    let y : Posted = f.0 in
    let p = posted_entry least (length b + 1) e y first f.1 in
    let parts = and_parts (place_lt y.place x.place)
    ((is_sole x.claim.kind || nat_eq y.leg.unit.0 x.claim.unit.0)
    && reaches (reach_of x.claim.kind) x.account y.leg.account) f.2 in
    let asked = and_parts (is_sole x.claim.kind || nat_eq y.leg.unit.0 x.claim.unit.0)
    (reaches (reach_of x.claim.kind) x.account y.leg.account) parts.1 in
    let there : Contains (spots_of part x.account) (spot_at x.place) =
    subst (λ (i : NamedSpots). Contains (spots_of i x.account) (spot_at x.place)) (sym same)
    (subst (λ (r : Reach). Contains (spots_of (index_part r index) x.account) (spot_at x.place)) looks (found x h)) in
    let r = row_there rows part x.account (spot_at x.place)
    (listed y.leg p.2 x.account
    (subst (λ (r : Reach). reaches r x.account y.leg.account ≡ true) looks asked.1)) there in
    let late : y.place.day.0 <ℤ x.place.day.0 =
    lt_day y.place x.place parts.0 (omega (arith, p.1, (number_entries 1 b x h).1)) in
    let low = p.0 in
    let behind : is_behind least (spot_at x.place) ≡ true = let k : least.0 <ℤ x.place.day.0 =
    omega (arith, ints) in grind (arith, ints, k) in
    all r.0 r.1 x h t (in_filter (is_behind least) (spots_in part r.0) (spot_at x.place) r.2 behind)

-- what follows for each reach follows
pub either_reach : {P : Type 0} (r : Reach) → (r ≡ Own → P) → (r ≡ Inside → P) → P
either_reach Own own inside = own refl
either_reach Inside own inside = inside refl

-- ---- the first day
pub below_day : (a b : ℤ) (r : Bool) → r ≡ is_lt (int_cmp a b) → r ≡ true → a ≤ℤ b
below_day a b r e f = by_tests (int_lt a b) (int_lt b a) refl refl (sym e ∙ f)
  where
    by_tests : (t u : Bool) → int_lt a b ≡ t → int_lt b a ≡ u → is_lt (cond t Less (cond u Greater Equal)) ≡ true
        → a ≤ℤ b
    by_tests true u g h k = grind (arith, ints, g)
    by_tests false true g h k = absurd (cc)
    by_tests false false g h k = absurd (cc)

pub not_below_day : (a b : ℤ) (r : Bool) → r ≡ is_lt (int_cmp a b) → r ≡ false → b ≤ℤ a
not_below_day a b r e f = by_tests (int_lt a b) (int_lt b a) refl refl (sym e ∙ f)
  where
    by_tests : (t u : Bool) → int_lt a b ≡ t → int_lt b a ≡ u → is_lt (cond t Less (cond u Greater Equal)) ≡ false
        → b ≤ℤ a
    by_tests true u g h k = absurd (cc)
    by_tests false u g h k = grind (arith, ints, g)

pub first_more : (a : Day) (es : List Entry) (i : ℕ) (e : Entry) (low : ℤ) → i < length es → e ≡ get_or es i e
    → low ≤ℤ a.0 → low ≤ℤ e.day.0 → AllByRecursion (λ (d : Entry). a.0 ≤ℤ d.day.0) (take i es)
    → AllByRecursion (λ (d : Entry). low ≤ℤ d.day.0) (take (i + 1) es)
first_more a es i e low l f g k h =
    subst (AllByRecursion (λ (d : Entry). low ≤ℤ d.day.0))
    (sym (take_more es i e l ∙ ap (λ (z : Entry). take i es ++ z ∷ []) (sym f))) (both (take i es) h)
  where
    both : (xs : List Entry) → AllByRecursion (λ (d : Entry). a.0 ≤ℤ d.day.0) xs
        → AllByRecursion (λ (d : Entry). low ≤ℤ d.day.0) (xs ++ e ∷ [])
    both [] m = (k, tt)
    both (x ∷ xs) m = (let n = m.0 in omega (arith, ints), both xs m.1)
