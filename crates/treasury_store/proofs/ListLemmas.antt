-- Lists that are walked through, and places in them.
use Rattle.std.proofs.Common.{◌≡◌, ℕ, zero, suc, ◌+◌, ◌<◌, ◌≤◌, Bool, true, false, not, cond, List, [], ◌∷◌, ◌++◌, map}
use Rattle.std.proofs.Common.{length, get_or, take, drop, refl, sym, ap, ap₂, subst, ◌∙◌, arith, bytes_eq, Some, None}
use Rattle.std.proofs.Common.{position, nat_lt}
use Rattle.std.specs.List.{slice_get, position_or_len}
use Rattle.std.specs.Prelude.{if◌then◌else◌}
use Rattle.std.proofs.lemmas.List.{take-append-drop, take_more, map-append}
use Rattle.money_core.specs.declared.style.Style.{Style}
use Rattle.money_core.specs.Style.{AreStyles}
use Rattle.money_core.proofs.PositionLemmas.{some_chosen, position-none}
use Rattle.money_core.proofs.ListLemmas.{drop_at}
use Rattle.treasury_state.specs.declared.delta.Addition.{Addition}
use Rattle.treasury_state.specs.declared.delta.Addition.TheVariants as add
use Rattle.treasury_rows.proofs.UnitRowLemmas.{styles_front}
use Rattle.treasury_store.specs.Changes.{place_in, styles_with_one, names_with_one, styles_with, names_with}
use Rattle.treasury_store.proofs.AdditionLemmas.{styles_grow}

pub taken_next : {X : Type 0} (xs : List X) (i : ℕ) (x : X) → slice_get xs i ≡ Some x
    → take (suc i) xs ≡ take i xs ++ x ∷ []
taken_next [] i x h = absurd cc
taken_next (y ∷ ys) zero x h = let same : y ≡ x = cc in ap (λ z. z ∷ []) same
taken_next (y ∷ ys) (suc i) x h = ap (λ l. y ∷ l) (taken_next ys i x h)

-- ---- places
place_at : (t : Bool) (n m : ℕ) → n ≡ m → (if t then 0 else suc n) ≡ cond (not t) (1 + m) 0
place_at true n m e = refl
place_at false n m e = omega (arith, e)

place_is : (names : List (List ℕ)) (name : List ℕ)
    → place_in names name ≡ position_or_len (λ (held : List ℕ). bytes_eq held name) names
place_is [] name = refl
place_is (x ∷ xs) name = place_at (bytes_eq x name) (place_in xs name)
    (position_or_len (λ (held : List ℕ). bytes_eq held name) xs) (place_is xs name)

pub placed_some : (names : List (List ℕ)) (name : List ℕ) (i : ℕ)
    → Some i ≡ position (λ (held : List ℕ). bytes_eq held name) names → i ≡ place_in names name
placed_some names name i e =
    let n = position_or_len (λ (held : List ℕ). bytes_eq held name) names in
    sym (place_is names name ∙ (some_chosen (nat_lt n (length names)) n i (sym e)).1)

pub placed_none : (names : List (List ℕ)) (name : List ℕ)
    → None ≡ position (λ (held : List ℕ). bytes_eq held name) names → length names ≡ place_in names name
placed_none names name e =
    position-none (λ (held : List ℕ). bytes_eq held name) names (sym e) ∙ sym (place_is names name)

bound_at : (t : Bool) (n m : ℕ) → n ≤ m → (if t then 0 else suc n) ≤ suc m
bound_at true n m h = omega arith
bound_at false n m h = omega (arith, h)

pub place_bound : (names : List (List ℕ)) (name : List ℕ) → place_in names name ≤ length names
place_bound [] name = omega arith
place_bound (x ∷ xs) name = bound_at (bytes_eq x name) (place_in xs name) (length xs) (place_bound xs name)

-- ---- styles

-- those on the way to all are styles too
pub styles_on_way : (styles : List Style) (xs : List Addition) → AreStyles (styles_with styles xs) → AreStyles styles
styles_on_way styles xs h = let w = styles_grow xs styles in styles_front styles w.0 (subst AreStyles w.1 h)

pub no_style : (styles : List Style) (x : Addition) → ((style : Style) → x ≡ add.Commodity style → ⊥)
    → styles ≡ styles_with_one styles x
no_style styles (add.Commodity style) h = absurd (h style refl)
no_style styles (add.Branch name) h = refl
no_style styles (add.Record name r) h = refl
no_style styles (add.Dispatched t) h = refl
no_style styles (add.Received id p) h = refl
no_style styles (add.Locked name day) h = refl

pub no_name : (names : List (List ℕ)) (x : Addition) → ((name : List ℕ) → x ≡ add.Branch name → ⊥)
    → names ≡ names_with_one names x
no_name names (add.Commodity style) h = refl
no_name names (add.Branch name) h = absurd (h name refl)
no_name names (add.Record name r) h = refl
no_name names (add.Dispatched t) h = refl
no_name names (add.Received id p) h = refl
no_name names (add.Locked name day) h = refl

-- ---- one more of the additions that are walked through
pub more_fit : (styles all : List Style) (xs : List Addition) (i : ℕ) (x : Addition) → i < length xs → x ≡ get_or xs i x
    → styles_with all (drop i xs) ≡ styles_with styles xs → AreStyles (styles_with styles xs)
    → AreStyles (styles_with_one all x)
more_fit styles all xs i x h e so_far good =
    styles_on_way (styles_with_one all x) (drop (i + 1) xs)
    (subst AreStyles (sym so_far ∙ ap (styles_with all) (drop_at xs i x h e)) good)

pub more_styles : (styles all new : List Style) (xs : List Addition) (i : ℕ) (x : Addition) → i < length xs
    → x ≡ get_or xs i x → styles_with all (drop i xs) ≡ styles_with styles xs → new ≡ styles_with_one all x
    → styles_with new (drop (i + 1) xs) ≡ styles_with styles xs
more_styles styles all new xs i x h e so_far is =
    ap (λ (s : List Style). styles_with s (drop (i + 1) xs)) is ∙
    (ap (styles_with all) (sym (drop_at xs i x h e)) ∙ so_far)

pub more_names : (names all new : List (List ℕ)) (xs : List Addition) (i : ℕ) (x : Addition) → i < length xs
    → x ≡ get_or xs i x → names_with all (drop i xs) ≡ names_with names xs → new ≡ names_with_one all x
    → names_with new (drop (i + 1) xs) ≡ names_with names xs
more_names names all new xs i x h e so_far is =
    ap (λ (s : List (List ℕ)). names_with s (drop (i + 1) xs)) is ∙
    (ap (names_with all) (sym (drop_at xs i x h e)) ∙ so_far)

-- one more is read off a list that is mapped twice
pub mapped_more : {X Y Z : Type 0} (f : X → Y) (h : Y → Z) (xs : List X) (i : ℕ) (x : X) (all : List Z) (z : Z)
    → i < length xs → x ≡ get_or xs i x → all ≡ map h (map f (take i xs)) → z ≡ h (f x)
    → all ++ z ∷ [] ≡ map h (map f (take (i + 1) xs))
mapped_more {X} {Y} {Z} f h xs i x all z low is so_far e =
    let next : take (i + 1) xs ≡ take i xs ++ x ∷ [] =
    take_more xs i x low ∙ ap (λ (y : X). take i xs ++ y ∷ []) (sym is) in
    ap₂ ◌++◌ so_far (ap (λ (y : Z). y ∷ []) e)
    ∙ (sym (map-append h (map f (take i xs)) (f x ∷ [])) ∙
    (ap (map h) (sym (map-append f (take i xs) (x ∷ []))) ∙ ap (λ (l : List X). map h (map f l)) (sym next)))

pub past_end : {X : Type 0} (xs : List X) (i : ℕ) → length xs ≤ i → drop i xs ≡ []
past_end [] zero h = refl
past_end [] (suc i) h = refl
past_end (x ∷ xs) zero h = absurd (omega (arith, h))
past_end (x ∷ xs) (suc i) h = past_end xs i (omega (arith, h))

-- ---- the first styles of a list
pub styles_taken : (styles : List Style) (i : ℕ) (s : Style) → Some s ≡ slice_get styles i → AreStyles styles
    → AreStyles (take i styles ++ s ∷ [])
styles_taken styles i s h are =
    subst AreStyles (taken_next styles i s (sym h))
    (styles_front (take (suc i) styles) (drop (suc i) styles)
    (subst AreStyles (sym (take-append-drop (suc i) styles)) are))

pub taken_more : (styles copy new : List Style) (i : ℕ) (s : Style) → Some s ≡ slice_get styles i → copy ≡ take i styles
    → new ≡ copy ++ s ∷ [] → new ≡ take (i + 1) styles
taken_more styles copy new i s h so_far is =
    let next : suc i ≡ i + 1 = omega arith in
    is ∙ (ap (λ (l : List Style). l ++ s ∷ []) so_far ∙
    (sym (taken_next styles i s (sym h)) ∙ ap (λ (n : ℕ). take n styles) next))

pub no_gap : {X : Type 0} (xs : List X) (i : ℕ) → i < length xs → None ≡ slice_get xs i → ⊥
no_gap [] i h e = omega (arith, h)
no_gap (x ∷ xs) zero h e = absurd cc
no_gap (x ∷ xs) (suc i) h e = no_gap xs i (omega (arith, h)) e
