-- what a failure names stands in the book
use Rattle.std.proofs.Common.{◌≡◌, ℕ, ◌+◌, ◌≤◌, Bool, true, false, ◌||◌, List, [], ◌∷◌, length, arith, refl, ap, ◌∙◌}
use Rattle.std.proofs.Common.{sym, subst, nat_eq, nat_lt, Option, Some, None, ℤ, pos, negsuc, ◌⊎◌, inl, inr}
use Rattle.std.specs.Prelude.{if◌then◌else◌, option_map, unsigned_abs, Contains}
use Rattle.std.proofs.lemmas.Int.{ints}
use Rattle.std.proofs.lemmas.List.Elements.{Contains-append_left, Contains-append_right, Contains-append_cases}
use Rattle.std.proofs.lemmas.List.Elements.{Contains-push}
use Rattle.money_core.specs.declared.unit.Unit.{Unit as Commodity}
use Rattle.money_core.specs.declared.day.Day.{Day}
use Rattle.money_core.specs.declared.cause.Cause.TheVariants.{Full, Limit}
use Rattle.money_core.specs.declared.claim.Claim.{Claim}
use Rattle.book_core.specs.declared.leg.Leg.{Leg}
use Rattle.book_core.specs.declared.claim.Placed.{Placed}
use Rattle.book_core.specs.declared.place.Place.{Place}
use Rattle.book_core.specs.declared.claim.Asserted.{Asserted}
use Rattle.book_core.specs.declared.entry.Entry.{Entry}
use Rattle.book_core.specs.declared.refusal.Failure.{Failure}
use Rattle.book_core.specs.declared.refusal.Refusal.TheVariants.{Plain, ClaimFailed}
use Rattle.book_core.specs.declared.place.Until.TheVariants.{At}
use Rattle.book_core.specs.Book.{legs_of}
use Rattle.book_core.specs.Claim.{reach_of, balance_at, asserted_on, asserted_claims, asserted_from, failure}
use Rattle.book_core.specs.Claim.{FailsInOwn, FailsInOther, IsFirstFailure}
use Rattle.book_core.specs.GoodBook.{most_entries, most_turnover, HasRoom, is_over, verdict}
use Rattle.book_core.specs.Named.{units_of, IsOfBook}
use Rattle.book_core.proofs.SumLemmas.{Within}
use Rattle.book_core.proofs.BookLemmas.{one_unit, room_from}
use Rattle.book_core.proofs.CommodityLemmas.{has_leg}
use Rattle.book_core.proofs.BalanceLemmas.{small_within}
use Rattle.book_core.proofs.HoldLemmas.{contains_cons, no_legs, failure_first}

Contains-head : {X : Type 0} (x : X) (xs : List X) → Contains (x ∷ xs) x
Contains-head x xs = Contains-append_left (x ∷ []) xs x (Contains-push [] x)

Contains-tail : {X : Type 0} (x y : X) (xs : List X) → Contains xs y → Contains (x ∷ xs) y
Contains-tail x y xs h = Contains-append_right (x ∷ []) xs y h

Contains-none : {X : Type 0} (x : X) → Contains [] x → ⊥
Contains-none x h = omega (arith, h.1)

-- the assertion stands on an entry of the list
pub record IsOn (es : List Entry) (x : Asserted) : Type 0 where
  pub entry : Entry
  pub in_list : Contains es entry
  pub placed : Placed
  pub on_entry : Contains entry.claims placed
  pub day : x.place.day ≡ entry.day
  pub leg : x.place.leg ≡ placed.leg
  pub claim : x.claim ≡ placed.claim

placed_on : (day : Day) (n : ℕ) (legs : List Leg) (ps : List Placed) (x : Asserted)
    → Contains (asserted_claims day n legs ps) x → (p : Placed) × Contains ps p × (asserted_on day n legs p ≡ x)
placed_on day n legs [] x h = absurd (Contains-none x h)
placed_on day n legs (p ∷ ps) x h =
    by_case (contains_cons (asserted_on day n legs p) x (asserted_claims day n legs ps) h) (placed_on day n legs ps x)
  where
    by_case : (asserted_on day n legs p ≡ x) ⊎ Contains (asserted_claims day n legs ps) x →
        (Contains (asserted_claims day n legs ps) x → (q : Placed) × Contains ps q × (asserted_on day n legs q ≡ x))
        → (q : Placed) × Contains (p ∷ ps) q × (asserted_on day n legs q ≡ x)
    by_case (inl e) more = (p, Contains-head p ps, e)
    by_case (inr k) more = let m = more k in (m.0, Contains-tail p m.0 ps m.1, m.2)

pub asserted_is_on : (n : ℕ) (es : List Entry) (x : Asserted) → Contains (asserted_from n es) x → IsOn es x
asserted_is_on n [] x h = absurd (Contains-none x h)
asserted_is_on n (e ∷ es) x h =
    by_case (Contains-append_cases (asserted_claims e.day n e.legs e.claims) (asserted_from (n + 1) es) x h)
    (asserted_is_on (n + 1) es x)
  where
    by_case : Contains (asserted_claims e.day n e.legs e.claims) x ⊎ Contains (asserted_from (n + 1) es) x
        → (Contains (asserted_from (n + 1) es) x → IsOn es x) → IsOn (e ∷ es) x
    by_case (inl k) more =
        let p = placed_on e.day n e.legs e.claims x k in
        record {
          entry = e;
          in_list = Contains-head e es;
          placed = p.0;
          on_entry = p.1;
          day = ap (λ (y : Asserted). y.place.day) (sym p.2);
          leg = ap (λ (y : Asserted). y.place.leg) (sym p.2);
          claim = ap (λ (y : Asserted). y.claim) (sym p.2);
        }
    by_case (inr k) more =
        let m = more k in
        record {
          entry = m.entry;
          in_list = Contains-tail e m.entry es m.in_list;
          placed = m.placed;
          on_entry = m.on_entry;
          day = m.day;
          leg = m.leg;
          claim = m.claim;
        }

-- a leg in the commodity: the commodity is one of the legs'
has_leg_unit : (v : Commodity) (xs : List Leg) → has_leg v xs ≡ true → Contains (units_of xs) v
has_leg_unit v [] h = absurd (cc)
has_leg_unit v (x ∷ xs) h = by_test (nat_eq x.unit.0 v.0) refl h (has_leg_unit v xs)
  where
    by_test : (t : Bool) → nat_eq x.unit.0 v.0 ≡ t → (t || has_leg v xs) ≡ true
        → (has_leg v xs ≡ true → Contains (units_of xs) v) → Contains (x.unit ∷ units_of xs) v
    by_test true e k more = subst (λ (u : Commodity). Contains (x.unit ∷ units_of xs) u) (one_unit x.unit v e)
        (Contains-head x.unit (units_of xs))
    by_test false e k more = Contains-tail x.unit v (units_of xs) (more k)

pub abs_within : (m : ℕ) (z : ℤ) → Within m z → unsigned_abs z ≤ m
abs_within m (pos n) w = let a = w.low in let b = w.high in omega (arith, ints)
abs_within m (negsuc n) w = let a = w.low in let b = w.high in omega (arith, ints)

-- of a book within the limit on the turnover
pub failure_named : (b : List Entry) → HasRoom b → (f : Failure) → failure b ≡ Some f → IsOfBook b f
failure_named b room f h = named first.fails
  where
    first : IsFirstFailure b f
    first = failure_first b f h

    on : IsOn b first.assertion
    on = asserted_is_on 1 b first.assertion first.in_book

    small : (v : Commodity) → f.found ≡ balance_at b first.assertion v → unsigned_abs f.found ≤ most_turnover
    small v e = subst (λ (z : ℤ). unsigned_abs z ≤ most_turnover) (sym e)
        (abs_within most_turnover _
        (small_within b room (reach_of first.assertion.claim.kind) first.assertion.account v
        (At first.assertion.place)))

    has_unit : (t : Bool) → has_leg f.unit (legs_of b) ≡ t → FailsInOther b first.assertion f
        → Contains (units_of (legs_of b)) f.unit
    has_unit true e k = has_leg_unit f.unit (legs_of b) e
    has_unit false e k = absurd (k.not_zero
        (k.found ∙ no_legs (reach_of first.assertion.claim.kind) b first.assertion.account f.unit
        (At first.assertion.place) e))

    named : FailsInOwn b first.assertion f ⊎ FailsInOther b first.assertion f → IsOfBook b f
    named (inl k) =
        record {
          entry = on.entry;
          in_book = on.in_list;
          day = ap (λ (p : Place). p.day) first.place ∙ on.day;
          assertion = on.placed;
          on_entry = on.on_entry;
          leg = ap (λ (p : Place). p.leg) first.place ∙ on.leg;
          names = inl (k.unit ∙ ap (λ (c : Claim). c.unit) on.claim, k.asserted ∙ ap (λ (c : Claim). c.qty) on.claim);
          found = small first.assertion.claim.unit k.found;
        }
    named (inr k) =
        record {
          entry = on.entry;
          in_book = on.in_list;
          day = ap (λ (p : Place). p.day) first.place ∙ on.day;
          assertion = on.placed;
          on_entry = on.on_entry;
          leg = ap (λ (p : Place). p.leg) first.place ∙ on.leg;
          names = inr (has_unit (has_leg f.unit (legs_of b)) refl k, k.asserted);
          found = small f.unit k.found;
        }

-- what holds of the commodity of each leg holds of each commodity of the legs
each_unit : (P : Commodity → Type 0) (xs : List Leg) (v : Commodity) → ((x : Leg) → Contains xs x → P x.unit)
    → Contains (units_of xs) v → P v
each_unit P [] v h k = absurd (Contains-none v k)
each_unit P (x ∷ xs) v h k =
    by_case (contains_cons x.unit v (units_of xs) k) (each_unit P xs v (λ y l. h y (Contains-tail x y xs l)))
  where
    by_case : (x.unit ≡ v) ⊎ Contains (units_of xs) v → (Contains (units_of xs) v → P v) → P v
    by_case (inl e) more = subst P e (h x (Contains-head x xs))
    by_case (inr l) more = more l

-- a leg of a book is one of an entry of it
each_leg : (P : Commodity → Type 0) (b : List Entry)
    → ((e : Entry) → Contains b e → (x : Leg) → Contains e.legs x → P x.unit) → (x : Leg) → Contains (legs_of b) x
    → P x.unit
each_leg P [] h x k = absurd (Contains-none x k)
each_leg P (e ∷ es) h x k =
    by_case (Contains-append_cases e.legs (legs_of es) x k) (each_leg P es (λ f l. h f (Contains-tail e f es l)) x)
  where
    by_case : Contains e.legs x ⊎ Contains (legs_of es) x → (Contains (legs_of es) x → P x.unit) → P x.unit
    by_case (inl l) more = h e (Contains-head e es) x l
    by_case (inr l) more = more l

-- what holds of the commodities of all legs and assertions, as that they are declared, holds of the one that is named
pub named_unit : (P : Commodity → Type 0) (b : List Entry) (f : Failure) → IsOfBook b f
    → ((e : Entry) → Contains b e → (x : Leg) → Contains e.legs x → P x.unit) →
    ((e : Entry) → Contains b e → (p : Placed) → Contains e.claims p → P p.claim.unit) → P f.unit
named_unit P b f named legs claims = by_case named.names
  where
    by_case : ((f.unit ≡ named.assertion.claim.unit) × (f.asserted ≡ named.assertion.claim.qty))
        ⊎ (Contains (units_of (legs_of b)) f.unit × (f.asserted ≡ pos 0)) → P f.unit
    by_case (inl p) = subst P (sym p.0) (claims named.entry named.in_book named.assertion named.on_entry)
    by_case (inr p) = each_unit P (legs_of b) f.unit (each_leg P b legs) p.0

-- refusal 29 is the book's first failure, and the limits are kept
pub failed_parts : (b : List Entry) (f : Failure) → verdict b ≡ Some (ClaimFailed f) → HasRoom b × (failure b ≡ Some f)
unfolding verdict
failed_parts b f h = by_tests (nat_lt most_entries (length b)) (is_over b) refl h
  where
    unmapped : (o : Option Failure) → option_map ClaimFailed o ≡ Some (ClaimFailed f) → o ≡ Some f
    unmapped None e = absurd (cc)
    unmapped (Some g) e = let s : g ≡ f = cc in ap (λ (x : Failure). Some x) s

    by_tests : (t u : Bool) → is_over b ≡ u
        → (if t then Some (Plain Full) else (if u then Some (Plain Limit) else option_map ClaimFailed (failure b)))
        ≡ Some (ClaimFailed f) → HasRoom b × (failure b ≡ Some f)
    by_tests true u e k = absurd (cc)
    by_tests false true e k = absurd (cc)
    by_tests false false e k = (room_from b e, unmapped (failure b) k)

pub failed_named : (b : List Entry) (f : Failure) → verdict b ≡ Some (ClaimFailed f) → IsOfBook b f
failed_named b f h = let p = failed_parts b f h in failure_named b p.0 f p.1
