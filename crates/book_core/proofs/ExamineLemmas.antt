-- assertions at given places
use Rattle.std.proofs.Common.{◌≡◌, ℕ, ◌+◌, ◌-◌, ◌<◌, ◌≤◌, Bool, true, false, ◌&&◌, ◌||◌, List, [], ◌∷◌, ◌++◌, length}
use Rattle.std.proofs.Common.{get_or, zero, suc, arith, refl, ap, ◌∙◌, sym, subst, nat_eq, Option, Some, None, ◌⊎◌, inl}
use Rattle.std.proofs.Common.{inr, ℤ}
use Rattle.std.specs.Prelude.{Contains, cond}
use Rattle.std.specs.List.{filter, AllByRecursion}
use Rattle.std.specs.Option.{is_some}
use Rattle.std.specs.Ordering.{int_eq, is_le, ordering_reverse}
use Rattle.std.specs.declared.cmp.Ordering.TheVariants.{Less}
use Rattle.std.proofs.lemmas.Bool.{cases_lt}
use Rattle.std.proofs.lemmas.Bool.Decides.{Decides-int_eq, nat_tests}
use Rattle.std.proofs.lemmas.List.Elements.{Contains-append_cases, Contains-get_or, All-contains, All-from_recursion}
use Rattle.std.proofs.Common.{length-append}
use Rattle.std.proofs.lemmas.List.{get_or_default, get_or_append_left, get_or-append_right}
use Rattle.std.proofs.lemmas.Map.Keys.{Less-from_sorted}
use Rattle.money_core.specs.declared.day.Day.{Day}
use Rattle.book_core.specs.declared.leg.Leg.{Leg}
use Rattle.book_core.specs.declared.place.Place.{Place}
use Rattle.book_core.specs.declared.claim.Placed.{Placed}
use Rattle.book_core.specs.declared.entry.Entry.{Entry}
use Rattle.book_core.specs.declared.refusal.Failure.{Failure}
use Rattle.book_core.specs.Place.{place_le, place_cmp}
use Rattle.book_core.specs.Claim.{Asserted, account_at, asserted_claims, asserted_from, fault, first_fault}
use Rattle.book_core.specs.Examine.{same_place, is_listed, assertions_at, examined, ArePlaces}
use Rattle.book_core.specs.GoodBook.{AreApart, IsFit}
use Rattle.book_core.proofs.ClaimLemmas.{places_total}
use Rattle.book_core.proofs.HoldLemmas.{Leads, first_fault_leads, all_hold, fault_reads}

-- ---- elements
pub cons_cases : {X : Type 0} (x y : X) (xs : List X) → Contains (x ∷ xs) y → (x ≡ y) ⊎ Contains xs y
cons_cases x y xs h = by_index h.0 h.1 h.2
  where
    by_index : (k : ℕ) → k < length (x ∷ xs) → get_or (x ∷ xs) k y ≡ y → (x ≡ y) ⊎ Contains xs y
    by_index zero l e = inl e
    by_index (suc k) l e = inr (k, omega arith, e)

pub head_in : {X : Type 0} (x : X) (xs : List X) → Contains (x ∷ xs) x
head_in x xs = (0, omega arith, refl)

pub tail_in : {X : Type 0} (x y : X) (xs : List X) → Contains xs y → Contains (x ∷ xs) y
tail_in x y xs h = (suc h.0, omega (arith, h.1), h.2)

pub none_in : {X : Type 0} (x : X) → Contains [] x → ⊥
none_in x h = absurd (omega (arith, h.1))

pub filter_in : {X : Type 0} (test : X → Bool) (xs : List X) (x : X) → Contains (filter test xs) x
    → Contains xs x × (test x ≡ true)
filter_in test [] x h = absurd (none_in x h)
filter_in test (y ∷ ys) x h = by_test (λ k. filter_in test ys x k) (test y) refl h
  where
    later : Contains ys x × (test x ≡ true) → Contains (y ∷ ys) x × (test x ≡ true)
    later p = (tail_in y x ys p.0, p.1)

    one : (Contains (filter test ys) x → Contains ys x × (test x ≡ true)) → test y ≡ true
        → (y ≡ x) ⊎ Contains (filter test ys) x → Contains (y ∷ ys) x × (test x ≡ true)
    one more t (inl e) = (subst (Contains (y ∷ ys)) e (head_in y ys), sym (ap test e) ∙ t)
    one more t (inr k) = later (more k)

    by_test : (Contains (filter test ys) x → Contains ys x × (test x ≡ true)) → (t : Bool) → test y ≡ t
        → Contains (cond t (y ∷ filter test ys) (filter test ys)) x → Contains (y ∷ ys) x × (test x ≡ true)
    by_test more true t k = one more t (cons_cases y x (filter test ys) k)
    by_test more false t k = later (more k)

pub in_filter : {X : Type 0} (test : X → Bool) (xs : List X) (x : X) → Contains xs x → test x ≡ true
    → Contains (filter test xs) x
in_filter test [] x h e = absurd (none_in x h)
in_filter test (y ∷ ys) x h e = by_test (λ k. in_filter test ys x k e) (test y) refl (cons_cases y x ys h)
  where
    by_test : (Contains ys x → Contains (filter test ys) x) → (t : Bool) → test y ≡ t → (y ≡ x) ⊎ Contains ys x
        → Contains (cond t (y ∷ filter test ys) (filter test ys)) x
    by_test more true t (inl k) = subst (Contains (y ∷ filter test ys)) k (head_in y (filter test ys))
    by_test more true t (inr k) = tail_in y x (filter test ys) (more k)
    by_test more false t (inl k) = absurd (let f : test x ≡ false = sym (ap test k) ∙ t in cc)
    by_test more false t (inr k) = more k

-- ---- where an assertion of a book stands
pub number_claims : (day : Day) (n : ℕ) (legs : List Leg) (xs : List Placed) (x : Asserted)
    → Contains (asserted_claims day n legs xs) x → x.place.entry ≡ n
number_claims day n legs [] x h = absurd (none_in x h)
number_claims day n legs (y ∷ ys) x h =
    by_case (λ k. number_claims day n legs ys x k) (cons_cases _ x (asserted_claims day n legs ys) h)
  where
    first : Asserted
    first = record {
      place = record { day = day; entry = n; leg = y.leg };
      account = account_at legs y.leg;
      claim = y.claim;
    }

    by_case : (Contains (asserted_claims day n legs ys) x → x.place.entry ≡ n)
        → (first ≡ x) ⊎ Contains (asserted_claims day n legs ys) x → x.place.entry ≡ n
    by_case more (inl e) = sym (ap (λ (z : Asserted). z.place.entry) e)
    by_case more (inr k) = more k

pub number_entries : (n : ℕ) (es : List Entry) (x : Asserted) → Contains (asserted_from n es) x
    → (n ≤ x.place.entry) × (x.place.entry < n + length es)
number_entries n [] x h = absurd (none_in x h)
number_entries n (e ∷ es) x h =
    by_case (λ k. number_entries (n + 1) es x k)
    (Contains-append_cases (asserted_claims e.day n e.legs e.claims) (asserted_from (n + 1) es) x h)
  where
    by_case : (Contains (asserted_from (n + 1) es) x → (n + 1 ≤ x.place.entry) × (x.place.entry < n + 1 + length es))
        → Contains (asserted_claims e.day n e.legs e.claims) x ⊎ Contains (asserted_from (n + 1) es) x
        → (n ≤ x.place.entry) × (x.place.entry < n + length (e ∷ es))
    by_case more (inl k) = let m = number_claims e.day n e.legs e.claims x k in (omega arith, omega arith)
    by_case more (inr k) = let m = more k in (omega (arith, m.0), omega (arith, m.1))

pub entry_claims : (n : ℕ) (es : List Entry) (i : ℕ) (e : Entry) (x : Asserted) → Contains (asserted_from n es) x
    → x.place.entry ≡ n + i → i < length es → e ≡ get_or es i e
    → Contains (asserted_claims e.day x.place.entry e.legs e.claims) x
entry_claims n [] i e x h m l g = absurd (omega arith)
entry_claims n (f ∷ fs) zero e x h m l g =
    by_case (Contains-append_cases (asserted_claims f.day n f.legs f.claims) (asserted_from (n + 1) fs) x h)
  where
    by_case : Contains (asserted_claims f.day n f.legs f.claims) x ⊎ Contains (asserted_from (n + 1) fs) x
        → Contains (asserted_claims e.day x.place.entry e.legs e.claims) x
    by_case (inl k) =
        subst (λ (y : Entry). Contains (asserted_claims y.day x.place.entry y.legs y.claims) x) (sym g)
        (subst (λ (j : ℕ). Contains (asserted_claims f.day j f.legs f.claims) x)
        (sym (number_claims f.day n f.legs f.claims x k)) k)
    by_case (inr k) = absurd (omega (arith, (number_entries (n + 1) fs x k).0))
entry_claims n (f ∷ fs) (suc i) e x h m l g =
    by_case (λ k. entry_claims (n + 1) fs i e x k (omega arith) (omega arith) g)
    (Contains-append_cases (asserted_claims f.day n f.legs f.claims) (asserted_from (n + 1) fs) x h)
  where
    by_case : (Contains (asserted_from (n + 1) fs) x → Contains (asserted_claims e.day x.place.entry e.legs e.claims) x)
        → Contains (asserted_claims f.day n f.legs f.claims) x ⊎ Contains (asserted_from (n + 1) fs) x
        → Contains (asserted_claims e.day x.place.entry e.legs e.claims) x
    by_case more (inl k) = absurd (omega (arith, number_claims f.day n f.legs f.claims x k))
    by_case more (inr k) = more k

-- an assertion of an entry, as the entry has it
abbrev pub at_leg : Day → ℕ → List Leg → Placed → Asserted
at_leg day n legs y =
    record { place = record { day = day; entry = n; leg = y.leg }; account = account_at legs y.leg; claim = y.claim }

pub claim_part : (day : Day) (n : ℕ) (legs : List Leg) (xs : List Placed) (x : Asserted)
    → Contains (asserted_claims day n legs xs) x → (y : Placed) × Contains xs y × (at_leg day n legs y ≡ x)
claim_part day n legs [] x h = absurd (none_in x h)
claim_part day n legs (y ∷ ys) x h =
    by_case (λ k. claim_part day n legs ys x k) (cons_cases (at_leg day n legs y) x (asserted_claims day n legs ys) h)
  where
    by_case : (Contains (asserted_claims day n legs ys) x → (z : Placed) × Contains ys z × (at_leg day n legs z ≡ x))
        → (at_leg day n legs y ≡ x) ⊎ Contains (asserted_claims day n legs ys) x
        → (z : Placed) × Contains (y ∷ ys) z × (at_leg day n legs z ≡ x)
    by_case more (inl e) = (y, head_in y ys, e)
    by_case more (inr k) = let p = more k in (p.0, tail_in y p.0 ys p.1, p.2)

pub same_leg : (xs : List Placed) (y z : Placed) → AreApart xs → Contains xs y → Contains xs z → y.leg ≡ z.leg → y ≡ z
same_leg [] y z apart h k e = absurd (none_in y h)
same_leg (x ∷ xs) y z apart h k e =
    by_cases (λ m n. same_leg xs y z apart.1 m n e) (cons_cases x y xs h) (cons_cases x z xs k)
  where
    clash : (w : Placed) → Contains xs w → x.leg ≡ w.leg → ⊥
    clash w m = All-contains (λ (v : Placed). x.leg ≡ v.leg → ⊥) xs w
        (All-from_recursion (λ (v : Placed). x.leg ≡ v.leg → ⊥) xs apart.0) m

    by_cases : (Contains xs y → Contains xs z → y ≡ z) → (x ≡ y) ⊎ Contains xs y → (x ≡ z) ⊎ Contains xs z → y ≡ z
    by_cases more (inl f) (inl g) = sym f ∙ g
    by_cases more (inl f) (inr m) = absurd (clash z m (ap (λ (w : Placed). w.leg) f ∙ e))
    by_cases more (inr m) (inl g) = absurd (clash y m (ap (λ (w : Placed). w.leg) g ∙ sym e))
    by_cases more (inr m) (inr n) = more m n

-- the answer for the entry at a place is that for the book's assertion there
pub fault_there : (b : List Entry) (n : ℕ) (es : List Entry) (i : ℕ) (e : Entry) (place : Place)
    (result : Option Failure) → place.entry ≡ n + i → i < length es → e ≡ get_or es i e →
    ((y : Placed) → Contains e.claims y → y.leg ≡ place.leg
    → result ≡ fault b (record { place = place; account = account_at e.legs y.leg; claim = y.claim }))
    → (x : Asserted) → Contains (asserted_from n es) x → x.place ≡ place → result ≡ fault b x
fault_there b n es i e place result m l g says x h s =
    let p = claim_part e.day x.place.entry e.legs e.claims x
    (entry_claims n es i e x h (ap (λ (q : Place). q.entry) s ∙ m) l g) in
    says p.0 p.1 (ap (λ (z : Asserted). z.place.leg) p.2 ∙ ap (λ (q : Place). q.leg) s)
    ∙ ap (λ (q : Place). fault b (let w : Asserted =
    record { place = q; account = account_at e.legs p.0.leg; claim = p.0.claim } in w))
    (sym s ∙ sym (ap (λ (z : Asserted). z.place) p.2))
    ∙ ap (fault b) p.2

-- ---- the listed assertions
pub same_from : (p q : Place) → same_place p q ≡ true → p ≡ q
same_from p q h = by_tests (int_eq p.day.0 q.day.0) (nat_eq p.entry q.entry) (nat_eq p.leg q.leg) refl refl refl h
  where
    built : p.day.0 ≡ q.day.0 → p.entry ≡ q.entry → p.leg ≡ q.leg → p ≡ q
    built e f g =
        ap (λ (d : ℤ). let w : Place = record { day = record { 0 = d }; entry = p.entry; leg = p.leg } in w) e ∙ ap
        (λ (n : ℕ). let w : Place = record { day = q.day; entry = n; leg = p.leg } in w) f
        ∙ ap (λ (n : ℕ). let w : Place = record { day = q.day; entry = q.entry; leg = n } in w) g

    by_tests : (t u v : Bool) → int_eq p.day.0 q.day.0 ≡ t → nat_eq p.entry q.entry ≡ u → nat_eq p.leg q.leg ≡ v
        → (t && (u && v)) ≡ true → p ≡ q
    by_tests false u v e f g k = absurd (cc)
    by_tests true false v e f g k = absurd (cc)
    by_tests true true false e f g k = absurd (cc)
    by_tests true true true e f g k =
        built ((Decides-int_eq p.day.0 q.day.0).0 e) (grind (arith, nat_tests, f)) (grind (arith, nat_tests, g))

pub same_self : (p : Place) → same_place p p ≡ true
same_self p =
    let e = (Decides-int_eq p.day.0 p.day.0).1 refl in
    let f : nat_eq p.entry p.entry ≡ true = grind (arith, nat_tests) in
    let g : nat_eq p.leg p.leg ≡ true = grind (arith, nat_tests) in
    rw (e, f, g) refl

pub listed_in : (places : List Place) (x : Asserted) → is_listed places x ≡ true → Contains places x.place
listed_in [] x h = absurd (cc)
listed_in (p ∷ ps) x h = by_test (λ k. listed_in ps x k) (same_place p x.place) refl h
  where
    by_test : (is_listed ps x ≡ true → Contains ps x.place) → (t : Bool) → same_place p x.place ≡ t
        → (t || is_listed ps x) ≡ true → Contains (p ∷ ps) x.place
    by_test more true e k = subst (Contains (p ∷ ps)) (same_from p x.place e) (head_in p ps)
    by_test more false e k = tail_in p x.place ps (more k)

pub in_listed : (places : List Place) (x : Asserted) → Contains places x.place → is_listed places x ≡ true
in_listed [] x h = absurd (none_in x.place h)
in_listed (p ∷ ps) x h = by_case (λ k. in_listed ps x k) (cons_cases p x.place ps h)
  where
    or_true : (t : Bool) → (t || true) ≡ true
    or_true true = refl
    or_true false = refl

    by_case : (Contains ps x.place → is_listed ps x ≡ true) → (p ≡ x.place) ⊎ Contains ps x.place
        → (same_place p x.place || is_listed ps x) ≡ true
    by_case more (inl e) = ap (λ (q : Place). same_place q x.place || is_listed ps x) e ∙ ap
        (λ (t : Bool). t || is_listed ps x) (same_self x.place)
    by_case more (inr k) = ap (λ (t : Bool). same_place p x.place || t) (more k) ∙ or_true (same_place p x.place)

-- every assertion at one of the first i places holds
abbrev pub HoldBefore : List Entry → List Place → ℕ → Type 0
HoldBefore b places i = (y : Asserted) (k : ℕ) → k < i → Contains (asserted_from 1 b) y
    → y.place ≡ get_or places k y.place → fault b y ≡ None

-- the assertion at the i-th place is the first that fails
pub first_fails : (b : List Entry) (places : List Place) (i : ℕ) (p : Place) (result : Option Failure) (f : Failure)
    → ArePlaces b places → i < length places → p ≡ get_or places i p → HoldBefore b places i →
    ((x : Asserted) → Contains (asserted_from 1 b) x → x.place ≡ p → result ≡ fault b x) → result ≡ Some f
    → result ≡ examined b places
unfolding examined
first_fails b places i p result f are l g held says e = by_first (first_fault b (assertions_at places b)) refl
  where
    in_places : Contains places p
    in_places = (i, l, sym g)

    some : (x : Asserted) × Contains (asserted_from 1 b) x × (x.place ≡ p)
    some = are.claims p in_places

    in_list : Contains (assertions_at places b) some.0
    in_list = in_filter (is_listed places) (asserted_from 1 b) some.0 some.1
        (in_listed places some.0 (subst (Contains places) (sym some.2) in_places))

    fails : fault b some.0 ≡ Some f
    fails = sym (says some.0 some.1 some.2) ∙ e

    by_lead : (h : Failure) → Leads b (assertions_at places b) h → Some f ≡ Some h
    by_lead h lead = by_place (cases_lt k i) (cases_lt i k)
      where
        z : Asserted
        z = lead.assertion

        both : Contains (asserted_from 1 b) z × (is_listed places z ≡ true)
        both = filter_in (is_listed places) (asserted_from 1 b) z lead.in_list

        there : Contains places z.place
        there = listed_in places z both.1

        k : ℕ
        k = there.0

        by_place : (k < i) ⊎ (i ≤ k) → (i < k) ⊎ (k ≤ i) → Some f ≡ Some h
        by_place (inl m) n = absurd (let w = held z k m both.0 (sym there.2) in let v = lead.fails in cc)
        by_place (inr m) (inr n) =
            let same : k ≡ i = omega arith in
            let on : z.place ≡ p = sym there.2 ∙ ap (λ (j : ℕ). get_or places j z.place) same ∙ get_or_default places i
            z.place p l ∙ sym g in
            sym e ∙ says z both.0 on ∙ lead.fails
        by_place (inr m) (inl n) =
            let up : place_cmp p z.place ≡ Less =
            ap (λ (q : Place). place_cmp q z.place) (g ∙ get_or_default places i p z.place l) ∙ ap
            (place_cmp (get_or places i z.place)) (sym there.2) ∙ Less-from_sorted place_cmp places i k z.place
            are.ascending n there.1 in
            let down : place_le z.place p ≡ false =
            ap is_le (places_total.antisymm z.place p ∙ ap ordering_reverse up) in
            let at : h.place ≡ z.place = (fault_reads b z h lead.fails).0 in
            let early : place_le h.place some.0.place ≡ false =
            ap (λ (q : Place). place_le q some.0.place) at ∙ ap (place_le z.place) some.2 ∙ down in
            absurd (let w = lead.before some.0 in_list early in let v = fails in cc)

    by_first : (o : Option Failure) → first_fault b (assertions_at places b) ≡ o
        → result ≡ first_fault b (assertions_at places b)
    by_first None h = absurd (let w =
        All-contains (λ (y : Asserted). fault b y ≡ None) (assertions_at places b) some.0
        (All-from_recursion (λ (y : Asserted). fault b y ≡ None) (assertions_at places b)
        (all_hold b (assertions_at places b) h))
        in_list in let v = fails in cc)
    by_first (Some h) m = e ∙ by_lead h (first_fault_leads b (assertions_at places b) h m) ∙ sym m

-- none fails
pub none_fails : (b : List Entry) (places : List Place) (i : ℕ) → length places ≤ i → HoldBefore b places i
    → None ≡ examined b places
unfolding examined
none_fails b places i l held = sym (by_list (assertions_at places b) (λ y h. h))
  where
    holds : (y : Asserted) → Contains (assertions_at places b) y → fault b y ≡ None
    holds y h =
        let both = filter_in (is_listed places) (asserted_from 1 b) y h in
        let there = listed_in places y both.1 in
        held y there.0 (omega (arith, there.1)) both.0 (sym there.2)

    by_list : (xs : List Asserted) → ((y : Asserted) → Contains xs y → Contains (assertions_at places b) y)
        → first_fault b xs ≡ None
    by_list [] h = refl
    by_list (x ∷ xs) h = rw (holds x (h x (head_in x xs)), by_list xs (λ y k. h y (tail_in x y xs k))) refl

-- the answer for an entry's assertion on a leg
pub fault_leg : (b : List Entry) (legs : List Leg) (claims items : List Placed) (i : ℕ) (d : Placed) (place : Place)
    (account : List ℕ) (result : Option Failure) → items ≡ claims → AreApart claims → i < length items
    → (get_or items i d).leg ≡ place.leg →
    account ≡ account_at legs (get_or items i d).leg
    → result ≡ fault b (record { place = place; account = account; claim = (get_or items i d).claim })
    → (y : Placed) → Contains claims y → y.leg ≡ place.leg →
    result ≡ fault b (record { place = place; account = account_at legs y.leg; claim = y.claim })
fault_leg b legs claims items i d place account result e apart l on named says y h k =
    let there : Contains claims (get_or items i d) =
    subst (λ (xs : List Placed). Contains xs (get_or items i d)) e (Contains-get_or items i d l) in
    let same : get_or items i d ≡ y = same_leg claims (get_or items i d) y apart there h (on ∙ sym k) in
    says ∙ ap (λ (a : List ℕ). fault b
    (let w : Asserted = record { place = place; account = a; claim = (get_or items i d).claim } in w)) named
    ∙ ap (λ (z : Placed). fault b (let w : Asserted =
    record { place = place; account = account_at legs z.leg; claim = z.claim } in w)) same

-- none of the first i assertions is on the leg
abbrev pub NoneOn : List Placed → ℕ → ℕ → Type 0
NoneOn claims leg i = (y : Placed) (k : ℕ) → k < i → get_or claims k y ≡ y → y.leg ≡ leg → ⊥

pub none_on_more : (claims items : List Placed) (leg i : ℕ) (d : Placed) → items ≡ claims → i < length items
    → ((get_or items i d).leg ≡ leg → ⊥) → NoneOn claims leg i → NoneOn claims leg (i + 1)
none_on_more claims items leg i d e l other none y k m g on = by_case (cases_lt k i)
  where
    by_case : (k < i) ⊎ (i ≤ k) → ⊥
    by_case (inl n) = none y k n g on
    by_case (inr n) =
        let same : k ≡ i = omega arith in
        other (ap (λ (z : Placed). z.leg)
        (ap (λ (xs : List Placed). get_or xs i d) e ∙ ap (λ (j : ℕ). get_or claims j d) (sym same) ∙ get_or_default
        claims k d y (omega (arith, ap (λ (xs : List Placed). length xs) e)) ∙ g) ∙ on)

pub fit_entry : (es : List Entry) (i : ℕ) (d : Entry) → AllByRecursion IsFit es → i < length es
    → AreApart (get_or es i d).claims
fit_entry es i d h l = (All-from_recursion IsFit es h i d l).apart

-- one more place where none fails
pub hold_more : (b : List Entry) (places : List Place) (i : ℕ) (d : Place) (result : Option Failure) → i < length places
    → ((x : Asserted) → Contains (asserted_from 1 b) x → x.place ≡ get_or places i d → result ≡ fault b x)
    → result ≡ None → HoldBefore b places i → HoldBefore b places (i + 1)
hold_more b places i d result l says e held y k m h at = by_case (cases_lt k i)
  where
    by_case : (k < i) ⊎ (i ≤ k) → fault b y ≡ None
    by_case (inl n) = held y k n h at
    by_case (inr n) =
        let same : k ≡ i = omega arith in
        sym (says y h (at ∙ ap (λ (j : ℕ). get_or places j y.place) same ∙ get_or_default places i y.place d l)) ∙ e

pub some_is : (o : Option Failure) → is_some o ≡ true → (f : Failure) × (o ≡ Some f)
some_is (Some f) h = (f, refl)
some_is None h = absurd (cc)

pub none_is : (o : Option Failure) → is_some o ≡ false → o ≡ None
none_is (Some f) h = absurd (cc)
none_is None h = refl

pub first_fails_at : (b : List Entry) (places : List Place) (i : ℕ) (d : Place) (result : Option Failure) (f : Failure)
    → ArePlaces b places → i < length places → HoldBefore b places i →
    ((x : Asserted) → Contains (asserted_from 1 b) x → x.place ≡ get_or places i d → result ≡ fault b x)
    → result ≡ Some f → result ≡ examined b places
first_fails_at b places i d result f are l held says e =
    first_fails b places i (get_or places i d) result f are l (get_or_default places i d (get_or places i d) l) held
    says e

-- an entry of a book in two parts
pub read_left : (old new b : List Entry) (i : ℕ) (d : Entry) → old ++ new ≡ b → i < length old
    → get_or old i d ≡ get_or b i (get_or old i d)
read_left old new b i d e l =
    sym (get_or_append_left old new d i l) ∙ ap (λ (es : List Entry). get_or es i d) e ∙ get_or_default b i d
    (get_or old i d) (omega (arith, ap (λ (es : List Entry). length es) e, length-append old new))

pub read_right : (old new b : List Entry) (i : ℕ) (x : Entry) → old ++ new ≡ b → length old ≤ i
    → x ≡ get_or new (i - length old) x → x ≡ get_or b i x
read_right old new b i x e l is =
    is ∙ sym (get_or-append_right old new (length old) i x refl l) ∙ ap (λ (es : List Entry). get_or es i x) e
