-- what an assertion that holds says, and what the first failure is
use Rattle.std.proofs.Common.{◌≡◌, ℕ, ◌<◌, Bool, true, false, ◌&&◌, List, [], ◌∷◌, arith, refl, ap, ◌∙◌, sym, subst}
use Rattle.std.proofs.Common.{nat_eq, Option, Some, None, ℤ, pos, ◌⊎◌, inl, inr}
use Rattle.std.specs.Prelude.{◌↔◌, if◌then◌else◌, option_map, not, Contains, IfSome}
use Rattle.std.specs.List.{list_any, AllByRecursion}
use Rattle.std.specs.Ordering.{int_eq}
use Rattle.std.proofs.lemmas.Bool.Decides.{Decides-int_eq, nat_tests}
use Rattle.std.proofs.lemmas.Int.{ints}
use Rattle.std.proofs.lemmas.List.Elements.{Contains-append_left, Contains-append_right, Contains-append_cases}
use Rattle.std.proofs.lemmas.List.Elements.{Contains-push, Contains-push_cases, All-contains, All-from_recursion}
use Rattle.money_core.specs.declared.unit.Unit.{Unit as Commodity}
use Rattle.book_core.specs.declared.leg.Leg.{Leg}
use Rattle.book_core.specs.declared.place.Place.{Place}
use Rattle.book_core.specs.declared.entry.Entry.{Entry}
use Rattle.book_core.specs.declared.claim.Asserted.{Asserted}
use Rattle.book_core.specs.declared.refusal.Failure.{Failure}
use Rattle.book_core.specs.declared.account.Reach.{Reach}
use Rattle.book_core.specs.declared.place.Until.{Until}
use Rattle.book_core.specs.declared.place.Until.TheVariants.{At}
use Rattle.book_core.specs.Place.{place_le}
use Rattle.book_core.specs.Book.{legs_of}
use Rattle.book_core.specs.Balance.{balance, turnover}
use Rattle.book_core.specs.Claim.{reach_of, is_sole, differs, is_over_zero, is_stray, least_unit, stray, claim_failure}
use Rattle.book_core.specs.Claim.{fault}
use Rattle.book_core.specs.Claim.{earlier, first_fault, asserted_from, failure, Holds, FailsInOwn, FailsInOther}
use Rattle.book_core.specs.Claim.{IsFirstFailure}
use Rattle.book_core.proofs.SumLemmas.{Within, within_entries}
use Rattle.book_core.proofs.BookLemmas.{none_moves}
use Rattle.book_core.proofs.CommodityLemmas.{passes_not, least_passes, least_le, has_leg}
use Rattle.book_core.proofs.ClaimLemmas.{le_total, le_trans, fault_plain, fault_alone}

pub none_least : (test : Commodity → Bool) → ((v : Commodity) → test v ≡ false) → (xs : List Leg)
    → least_unit test xs ≡ None
none_least test h [] = refl
none_least test h (x ∷ xs) = rw (h x.unit, none_least test h xs) refl

-- no legs in a commodity: its balance is zero
pub no_legs : (reach : Reach) (b : List Entry) (account : List ℕ) (v : Commodity) (limit : Until)
    → list_any (λ (l : Leg). nat_eq l.unit.0 v.0) (legs_of b) ≡ false → balance reach b account v limit ≡ pos 0
unfolding balance
no_legs reach b account v limit h =
    let test : Commodity → Bool = λ (u : Commodity). nat_eq u.0 v.0 in
    let t : nat_eq v.0 v.0 ≡ true = grind (arith, nat_tests) in
    let m : turnover v b ≡ 0 = none_moves (λ (u : Commodity). nat_eq u.0 v.0) v (legs_of b) h t in
    let w : Within 0 (balance reach b account v limit) =
    subst (λ (n : ℕ). Within n (balance reach b account v limit)) m (within_entries reach account v limit 1 b) in
    let low = w.low in
    let high = w.high in
    omega (arith, ints)

stray_zero : (own v : Commodity) (z : ℤ) → (not (nat_eq v.0 own.0) && not (int_eq z (pos 0))) ≡ false
    → nat_eq v.0 own.0 ≡ false → z ≡ pos 0
stray_zero own v z h k =
    by_test (int_eq z (pos 0)) refl (sym (ap (λ (t : Bool). not t && not (int_eq z (pos 0))) k) ∙ h)
  where
    by_test : (t : Bool) → int_eq z (pos 0) ≡ t → not t ≡ false → z ≡ pos 0
    by_test true e f = (Decides-int_eq z (pos 0)).0 e
    by_test false e f = absurd (cc)

pub zero_stray : (own v : Commodity) (z : ℤ) → (nat_eq v.0 own.0 ≡ false → z ≡ pos 0)
    → (not (nat_eq v.0 own.0) && not (int_eq z (pos 0))) ≡ false
zero_stray own v z h = by_test (nat_eq v.0 own.0) refl
  where
    by_test : (t : Bool) → nat_eq v.0 own.0 ≡ t → (not t && not (int_eq z (pos 0))) ≡ false
    by_test true e = refl
    by_test false e = let k = (Decides-int_eq z (pos 0)).1 (h e) in rw k refl

pub holds_stray : (reach : Reach) (b : List Entry) (account : List ℕ) (own : Commodity) (limit : Until)
    → ((v : Commodity) → nat_eq v.0 own.0 ≡ false → balance reach b account v limit ≡ pos 0)
    → stray reach b account own limit ≡ None
unfolding stray
holds_stray reach b account own limit h =
    none_least (is_stray reach b account own limit) (λ v. zero_stray own v (balance reach b account v limit) (h v))
    (legs_of b)

pub stray_holds : (reach : Reach) (b : List Entry) (account : List ℕ) (own : Commodity) (limit : Until)
    → stray reach b account own limit ≡ None → (v : Commodity) → nat_eq v.0 own.0 ≡ false
    → balance reach b account v limit ≡ pos 0
unfolding stray
stray_holds reach b account own limit h v k = by_test (list_any (λ (l : Leg). nat_eq l.unit.0 v.0) (legs_of b)) refl
  where
    by_test : (t : Bool) → list_any (λ (l : Leg). nat_eq l.unit.0 v.0) (legs_of b) ≡ t
        → balance reach b account v limit ≡ pos 0
    by_test true e = stray_zero own v (balance reach b account v limit)
        (passes_not (is_stray reach b account own limit) v (legs_of b) h e) k
    by_test false e = no_legs reach b account v limit e

mapped_none : (f : Commodity → Failure) (o : Option Commodity) → option_map f o ≡ None → o ≡ None
mapped_none f None e = refl
mapped_none f (Some v) e = absurd (cc)

pub holds_none : (b : List Entry) (x : Asserted) → Holds b x → fault b x ≡ None
holds_none b x h = by_test (is_sole x.claim.kind) refl
  where
    by_test : (t : Bool) → is_sole x.claim.kind ≡ t → fault b x ≡ None
    by_test true e = sym (fault_alone b x (balance (reach_of x.claim.kind) b x.account x.claim.unit (At x.place)) refl
        h.same (holds_stray (reach_of x.claim.kind) b x.account x.claim.unit (At x.place) (h.alone e)))
    by_test false e =
        sym (fault_plain b x (balance (reach_of x.claim.kind) b x.account x.claim.unit (At x.place)) refl h.same e)

judged_none : (x : Asserted) (found : ℤ) (other : Option Commodity) (amounts : Commodity → ℤ)
    → claim_failure x found other amounts ≡ None → (found ≡ x.claim.qty) × (is_sole x.claim.kind ≡ true → other ≡ None)
judged_none x found other amounts h = by_test (int_eq found x.claim.qty) refl h
  where
    by_sole : (t : Bool) → option_map (λ (v : Commodity). is_over_zero x v (amounts v)) (if t then other else None)
        ≡ None → t ≡ true → other ≡ None
    by_sole true e f = mapped_none _ other e
    by_sole false e f = absurd (cc)

    by_test : (t : Bool) → int_eq found x.claim.qty ≡ t
        → (if t then option_map (λ (v : Commodity). is_over_zero x v (amounts v))
        (if is_sole x.claim.kind then other else None) else Some (differs x found)) ≡ None
        → (found ≡ x.claim.qty) × (is_sole x.claim.kind ≡ true → other ≡ None)
    by_test true e k = ((Decides-int_eq found x.claim.qty).0 e, by_sole (is_sole x.claim.kind) k)
    by_test false e k = absurd (cc)

pub none_holds : (b : List Entry) (x : Asserted) → fault b x ≡ None → Holds b x
unfolding fault
none_holds b x h =
    let p = judged_none x (balance (reach_of x.claim.kind) b x.account x.claim.unit (At x.place))
    (stray (reach_of x.claim.kind) b x.account x.claim.unit (At x.place))
    (λ (v : Commodity). balance (reach_of x.claim.kind) b x.account v (At x.place)) h in
    record {
      same = p.0;
      alone = λ e.
          stray_holds (reach_of x.claim.kind) b x.account x.claim.unit (At x.place) (p.1 e);
    }

-- ---- the first failure
earlier_none : (a b : Option Failure) → earlier a b ≡ None → (a ≡ None) × (b ≡ None)
earlier_none None b e = (refl, e)
earlier_none (Some x) None e = absurd (cc)
earlier_none (Some x) (Some y) e = by_test (place_le x.place y.place) e
  where
    by_test : (t : Bool) → (if t then Some x else Some y) ≡ None → (Some x ≡ None) × (Some y ≡ None)
    by_test true f = absurd (cc)
    by_test false f = absurd (cc)

pub all_hold : (b : List Entry) (xs : List Asserted) → first_fault b xs ≡ None
    → AllByRecursion (λ (x : Asserted). fault b x ≡ None) xs
all_hold b [] h = tt
all_hold b (x ∷ xs) h = let p = earlier_none (fault b x) (first_fault b xs) h in (p.0, all_hold b xs p.1)

-- none fails exactly where all hold
pub failure_none : (b : List Entry) → (failure b ≡ None) ↔ AllByRecursion (Holds b) (asserted_from 1 b)
unfolding failure
failure_none b =
    ((λ h. forth (asserted_from 1 b) (all_hold b (asserted_from 1 b) h)), (λ h. back (asserted_from 1 b) h))
  where
    forth : (xs : List Asserted) → AllByRecursion (λ (x : Asserted). fault b x ≡ None) xs → AllByRecursion (Holds b) xs
    forth [] h = tt
    forth (x ∷ xs) h = (none_holds b x h.0, forth xs h.1)

    back : (xs : List Asserted) → AllByRecursion (Holds b) xs → first_fault b xs ≡ None
    back [] h = refl
    back (x ∷ xs) h = rw (holds_none b x h.0, back xs h.1) refl

-- how a judgement that fails reads
judged_some : (x : Asserted) (found : ℤ) (other : Option Commodity) (amounts : Commodity → ℤ) (f : Failure)
    → claim_failure x found other amounts ≡ Some f →
    ((found ≡ x.claim.qty → ⊥) × (differs x found ≡ f))
    ⊎ ((found ≡ x.claim.qty) × (is_sole x.claim.kind ≡ true)
    × ((v : Commodity) × (other ≡ Some v) × (is_over_zero x v (amounts v) ≡ f)))
judged_some x found other amounts f h = by_test (int_eq found x.claim.qty) refl h
  where
    named : (o : Option Commodity) → option_map (λ (v : Commodity). is_over_zero x v (amounts v)) o ≡ Some f
        → (v : Commodity) × (o ≡ Some v) × (is_over_zero x v (amounts v) ≡ f)
    named None e = absurd (cc)
    named (Some v) e = (v, refl, (cc))

    by_sole : found ≡ x.claim.qty → (t : Bool) → is_sole x.claim.kind ≡ t
        → option_map (λ (v : Commodity). is_over_zero x v (amounts v)) (if t then other else None) ≡ Some f →
        ((found ≡ x.claim.qty → ⊥) × (differs x found ≡ f))
        ⊎ ((found ≡ x.claim.qty) × (is_sole x.claim.kind ≡ true)
        × ((v : Commodity) × (other ≡ Some v) × (is_over_zero x v (amounts v) ≡ f)))
    by_sole same true e k = inr (same, e, named other k)
    by_sole same false e k = absurd (cc)

    by_test : (t : Bool) → int_eq found x.claim.qty ≡ t
        → (if t then option_map (λ (v : Commodity). is_over_zero x v (amounts v))
        (if is_sole x.claim.kind then other else None) else Some (differs x found)) ≡ Some f →
        ((found ≡ x.claim.qty → ⊥) × (differs x found ≡ f))
        ⊎ ((found ≡ x.claim.qty) × (is_sole x.claim.kind ≡ true)
        × ((v : Commodity) × (other ≡ Some v) × (is_over_zero x v (amounts v) ≡ f)))
    by_test true e k = by_sole ((Decides-int_eq found x.claim.qty).0 e) (is_sole x.claim.kind) refl k
    by_test false e k = inl ((λ same. absurd (let t = (Decides-int_eq found x.claim.qty).1 same in cc)), (cc))

-- what a stray commodity is
pub stray_parts : (own v : Commodity) (z : ℤ) → (not (nat_eq v.0 own.0) && not (int_eq z (pos 0))) ≡ true
    → (nat_eq v.0 own.0 ≡ false) × (z ≡ pos 0 → ⊥)
stray_parts own v z h = by_tests (nat_eq v.0 own.0) (int_eq z (pos 0)) refl h
  where
    by_tests : (t u : Bool) → int_eq z (pos 0) ≡ u → (not t && not u) ≡ true → (t ≡ false) × (z ≡ pos 0 → ⊥)
    by_tests true u e k = absurd (cc)
    by_tests false true e k = absurd (cc)
    by_tests false false e k = (refl, λ zero. absurd (let t = (Decides-int_eq z (pos 0)).1 zero in cc))

stray_is : (reach : Reach) (b : List Entry) (account : List ℕ) (own : Commodity) (limit : Until) (v : Commodity)
    → stray reach b account own limit ≡ Some v
    → (nat_eq v.0 own.0 ≡ false) × (balance reach b account v limit ≡ pos 0 → ⊥)
unfolding stray
stray_is reach b account own limit v h =
    stray_parts own v (balance reach b account v limit)
    (least_passes (is_stray reach b account own limit) v (legs_of b) h)

pub stray_first : (reach : Reach) (b : List Entry) (account : List ℕ) (own : Commodity) (limit : Until) (v : Commodity)
    → stray reach b account own limit ≡ Some v → (u : Commodity) → u.0 < v.0 → nat_eq u.0 own.0 ≡ false
    → balance reach b account u limit ≡ pos 0
unfolding stray
stray_first reach b account own limit v h u k n =
    by_test (has_leg u (legs_of b)) refl (is_stray reach b account own limit u) refl
  where
    by_test : (t : Bool) → has_leg u (legs_of b) ≡ t → (s : Bool) → is_stray reach b account own limit u ≡ s
        → balance reach b account u limit ≡ pos 0
    by_test true e true f =
        absurd (let l = least_le (is_stray reach b account own limit) u v (legs_of b) h e f in omega arith)
    by_test true e false f = stray_zero own u (balance reach b account u limit) f n
    by_test false e s f = no_legs reach b account u limit e

-- how a failing assertion reads
pub fault_reads : (b : List Entry) (x : Asserted) (f : Failure) → fault b x ≡ Some f
    → (f.place ≡ x.place) × (FailsInOwn b x f ⊎ FailsInOther b x f)
unfolding fault
fault_reads b x f h = read (judged_some x own other amounts f h)
  where
    own : ℤ
    own = balance (reach_of x.claim.kind) b x.account x.claim.unit (At x.place)

    other : Option Commodity
    other = stray (reach_of x.claim.kind) b x.account x.claim.unit (At x.place)

    amounts : Commodity → ℤ
    amounts v = balance (reach_of x.claim.kind) b x.account v (At x.place)

    read : ((own ≡ x.claim.qty → ⊥) × (differs x own ≡ f))
        ⊎ ((own ≡ x.claim.qty) × (is_sole x.claim.kind ≡ true)
        × ((v : Commodity) × (other ≡ Some v) × (is_over_zero x v (amounts v) ≡ f)))
        → (f.place ≡ x.place) × (FailsInOwn b x f ⊎ FailsInOther b x f)
    read (inl p) =
        subst (λ (g : Failure). (g.place ≡ x.place) × (FailsInOwn b x g ⊎ FailsInOther b x g)) p.1
        (refl, inl (record { unit = refl; asserted = refl; found = refl; wrong = p.0 }))
    read (inr p) =
        let v : Commodity = p.2.0 in
        let s = stray_is (reach_of x.claim.kind) b x.account x.claim.unit (At x.place) v p.2.1 in
        subst (λ (g : Failure). (g.place ≡ x.place) × (FailsInOwn b x g ⊎ FailsInOther b x g)) p.2.2 (
          refl,
          inr (record {
            sole = p.1;
            same = p.0;
            other = s.0;
            asserted = refl;
            found = refl;
            not_zero = s.1;
            first = stray_first (reach_of x.claim.kind) b x.account x.claim.unit (At x.place) v p.2.1;
          }),
        )

-- the first failure leads the others
pub record Leads (b : List Entry) (xs : List Asserted) (f : Failure) : Type 0 where
  pub assertion : Asserted
  pub in_list : Contains xs assertion
  pub fails : fault b assertion ≡ Some f
  pub before : (y : Asserted) → Contains xs y → place_le f.place y.place ≡ false → fault b y ≡ None

pub contains_cons : {X : Type 0} (x y : X) (xs : List X) → Contains (x ∷ xs) y → (x ≡ y) ⊎ Contains xs y
contains_cons {X} x y xs h = split (Contains-append_cases (x ∷ []) xs y h)
  where
    one : Contains [] y ⊎ (x ≡ y) → (x ≡ y) ⊎ Contains xs y
    one (inl k) = absurd (omega (arith, k.1))
    one (inr k) = inl k

    split : Contains (x ∷ []) y ⊎ Contains xs y → (x ≡ y) ⊎ Contains xs y
    split (inl k) = one (Contains-push_cases [] x y k)
    split (inr k) = inr k

itself_le : (p : Place) → place_le p p ≡ true
itself_le p = by_test (place_le p p) refl
  where
    by_test : (t : Bool) → place_le p p ≡ t → place_le p p ≡ true
    by_test true e = e
    by_test false e = le_total p p e

pub first_fault_leads : (b : List Entry) (xs : List Asserted) (f : Failure) → first_fault b xs ≡ Some f → Leads b xs f
first_fault_leads b [] f h = absurd (cc)
first_fault_leads b (x ∷ xs) f h =
    by_first (fault b x) refl (first_fault b xs) refl h (λ g e. first_fault_leads b xs g e) (λ e. all_hold b xs e)
  where
    in_place : (g : Failure) → fault b x ≡ Some g → g.place ≡ x.place
    in_place g e = (fault_reads b x g e).0

    no_self : (g : Failure) (y : Asserted) → fault b x ≡ Some g → x ≡ y → place_le g.place y.place ≡ false
        → fault b y ≡ None
    no_self g y e s k = absurd (let t : place_le g.place y.place ≡ true =
        subst (λ (z : Asserted). place_le g.place z.place ≡ true) s
        (subst (λ (p : Place). place_le p x.place ≡ true) (sym (in_place g e)) (itself_le x.place)) in cc)

    head : Contains (x ∷ xs) x
    head = Contains-append_left (x ∷ []) xs x (Contains-push [] x)

    tail : (y : Asserted) → Contains xs y → Contains (x ∷ xs) y
    tail y k = Contains-append_right (x ∷ []) xs y k

    -- none of the others fails before g
    first_here : (g : Failure) → fault b x ≡ Some g
        → ((y : Asserted) → Contains xs y → place_le g.place y.place ≡ false → fault b y ≡ None) → Leads b (x ∷ xs) g
    first_here g e others =
        record { assertion = x; in_list = head; fails = e; before = λ y k l. by_side y l (contains_cons x y xs k) }
      where
        by_side : (y : Asserted) → place_le g.place y.place ≡ false → (x ≡ y) ⊎ Contains xs y → fault b y ≡ None
        by_side y l (inl s) = no_self g y e s l
        by_side y l (inr k) = others y k l

    first_later : (g : Failure) → Leads b xs g → (place_le g.place x.place ≡ false → fault b x ≡ None)
        → Leads b (x ∷ xs) g
    first_later g lead self = record {
      assertion = lead.assertion;
      in_list = tail lead.assertion lead.in_list;
      fails = lead.fails;
      before = λ y k l.
          by_side y l (contains_cons x y xs k);
    }
      where
        by_side : (y : Asserted) → place_le g.place y.place ≡ false → (x ≡ y) ⊎ Contains xs y → fault b y ≡ None
        by_side y l (inl s) = subst (λ (z : Asserted). fault b z ≡ None) s
            (self (subst (λ (z : Asserted). place_le g.place z.place ≡ false) (sym s) l))
        by_side y l (inr k) = lead.before y k l

    hold_all : AllByRecursion (λ (y : Asserted). fault b y ≡ None) xs → (y : Asserted) → Contains xs y
        → fault b y ≡ None
    hold_all all y k = All-contains (λ (z : Asserted). fault b z ≡ None) xs y
        (All-from_recursion (λ (z : Asserted). fault b z ≡ None) xs all) k

    not_before : (g k : Failure) (y : Asserted) → place_le g.place k.place ≡ true → place_le g.place y.place ≡ false
        → place_le k.place y.place ≡ false
    not_before g k y e l = by_test (place_le k.place y.place) refl
      where
        by_test : (t : Bool) → place_le k.place y.place ≡ t → t ≡ false
        by_test true m = absurd (let n = le_trans g.place k.place y.place e m in cc)
        by_test false m = refl

    by_places : (g k : Failure) → fault b x ≡ Some g → first_fault b xs ≡ Some k
        → ((m : Failure) → first_fault b xs ≡ Some m → Leads b xs m) → (t : Bool) → place_le g.place k.place ≡ t
        → (if t then Some g else Some k) ≡ Some f → Leads b (x ∷ xs) f
    by_places g k e d more true l m = let s : g ≡ f =
        cc in subst (Leads b (x ∷ xs)) s (first_here g e (λ y n o. (more k d).before y n (not_before g k y l o)))
    by_places g k e d more false l m =
        let s : k ≡ f = cc in
        subst (Leads b (x ∷ xs)) s (first_later k (more k d)
        (λ n. absurd (let t = le_total g.place k.place l in let o =
        subst (λ (p : Place). place_le k.place p ≡ false) (sym (in_place g e)) n in cc)))

    by_first : (o : Option Failure) → fault b x ≡ o → (p : Option Failure) → first_fault b xs ≡ p → earlier o p ≡ Some f
        → ((g : Failure) → first_fault b xs ≡ Some g → Leads b xs g)
        → (first_fault b xs ≡ None → AllByRecursion (λ (y : Asserted). fault b y ≡ None) xs) → Leads b (x ∷ xs) f
    by_first None e None d m more all = absurd (cc)
    by_first None e (Some k) d m more all =
        let s : k ≡ f = cc in subst (Leads b (x ∷ xs)) s (first_later k (more k d) (λ n. e))
    by_first (Some g) e None d m more all =
        let s : g ≡ f = cc in subst (Leads b (x ∷ xs)) s (first_here g e (λ y n o. hold_all (all d) y n))
    by_first (Some g) e (Some k) d m more all = by_places g k e d more (place_le g.place k.place) refl m

-- an answer is that of an assertion that fails, and those at earlier places hold
pub failure_first : (b : List Entry) (f : Failure) → failure b ≡ Some f → IsFirstFailure b f
unfolding failure
failure_first b f h =
    let lead = first_fault_leads b (asserted_from 1 b) f h in
    let reads = fault_reads b lead.assertion f lead.fails in
    record {
      assertion = lead.assertion;
      in_book = lead.in_list;
      place = reads.0;
      fails = reads.1;
      before = λ y k l.
          none_holds b y (lead.before y k l);
    }

pub failure_some : (b : List Entry) → IfSome (failure b) (IsFirstFailure b)
failure_some b = by_case (failure b) refl
  where
    by_case : (o : Option Failure) → failure b ≡ o → IfSome o (IsFirstFailure b)
    by_case None e = tt
    by_case (Some f) e = failure_first b f e
