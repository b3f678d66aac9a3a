-- Spots in the order of their days.
use Rattle.std.proofs.Common.{◌≡◌, ℕ, ◌+◌, ◌-◌, ◌<◌, ◌≤◌, Bool, true, false, List, [], ◌∷◌, ◌++◌, length, take, drop}
use Rattle.std.proofs.Common.{length-drop, get_or, set, zero, suc, refl, ap, ◌∙◌, sym, subst, arith, ◌⊎◌, inl, inr}
use Rattle.std.proofs.Common.{◌≤ℤ◌, ◌<ℤ◌, Option, Some, None, Vec, Global}
use Rattle.std.specs.Prelude.{Contains, int_le, cond}
use Rattle.std.specs.List.{filter}
use Rattle.std.specs.Option.{option_map_or}
use Rattle.std.specs.Str.{bytes_eq}
use Rattle.std.specs.BTreeMap.{BTreeMap}
use Rattle.std.proofs.lemmas.Bool.{cases_lt}
use Rattle.std.proofs.lemmas.Int.{ints}
use Rattle.std.proofs.lemmas.List.{take_all, get_or_default, get_or-set_same, get_or-set_other, get_or_append_left}
use Rattle.std.proofs.lemmas.List.{get_or_past}
use Rattle.std.proofs.Math.Seq.{get_or-append_seam}
use Rattle.std.proofs.lemmas.Slice.Eq.{bytes_eq-Decides}
use Rattle.money_core.specs.declared.day.Day.{Day}
use Rattle.day_sums.specs.declared.spots.Spot.{Spot}
use Rattle.day_sums.specs.Spots.{AreByDay, blank_spot, is_behind}
use Rattle.day_sums.proofs.NameLemmas.{under, Puts, under_other}

-- ---- the search
pub through_middle : (xs : List Spot) (day : Day) (m : ℕ) (d : Spot) (r : Bool) → AreByDay xs → m < length xs
    → r ≡ int_le (get_or xs m d).day.0 day.0 → r ≡ true → (k : ℕ) → k < m + 1 → (get_or xs k blank_spot).day.0 ≤ℤ day.0
through_middle xs day m d r rise h e f k l =
    let a = rise k m (omega arith) h in
    let g : int_le (get_or xs m blank_spot).day.0 day.0 ≡ true =
    ap (λ (x : Spot). int_le x.day.0 day.0) (get_or_default xs m blank_spot d h) ∙ sym e ∙ f in
    let b : (get_or xs m blank_spot).day.0 ≤ℤ day.0 = grind (arith, ints, g) in
    omega (arith, ints)

pub behind_middle : (xs : List Spot) (day : Day) (m : ℕ) (d : Spot) (r : Bool) → AreByDay xs → m < length xs
    → r ≡ int_le (get_or xs m d).day.0 day.0 → r ≡ false → (k : ℕ) → m ≤ k → k < length xs
    → day.0 <ℤ (get_or xs k blank_spot).day.0
behind_middle xs day m d r rise n e f k l h =
    let a = rise m k l h in
    let g : int_le (get_or xs m blank_spot).day.0 day.0 ≡ false =
    ap (λ (x : Spot). int_le x.day.0 day.0) (get_or_default xs m blank_spot d n) ∙ sym e ∙ f in
    let b : day.0 <ℤ (get_or xs m blank_spot).day.0 = grind (arith, ints, g) in
    omega (arith, ints)

-- ---- a spot that is put where the search ends
abbrev pub AreThrough : List Spot → Day → ℕ → Type 0
AreThrough xs day at = (k : ℕ) → k < at → (get_or xs k blank_spot).day.0 ≤ℤ day.0

abbrev pub AreBehind : List Spot → Day → ℕ → Type 0
AreBehind xs day at = (k : ℕ) → at ≤ k → k < length xs → day.0 <ℤ (get_or xs k blank_spot).day.0

-- ---- the spots after a day
none_behind : (xs : List Spot) (day : Day) → AreThrough xs day (length xs) → filter (is_behind day) xs ≡ []
none_behind [] day h = refl
none_behind (x ∷ xs) day h =
    let e : is_behind day x ≡ false = let a = h 0 (omega arith) in grind (arith, ints) in
    ap (λ (t : Bool). cond t (x ∷ filter (is_behind day) xs) (filter (is_behind day) xs)) e ∙ none_behind xs day
    (λ k m. h (suc k) (omega arith))

all_behind : (xs : List Spot) (day : Day) → AreBehind xs day 0 → xs ≡ filter (is_behind day) xs
all_behind [] day h = refl
all_behind (x ∷ xs) day h =
    let e : is_behind day x ≡ true = let a = h 0 (omega arith) (omega arith) in grind (arith, ints) in
    ap (λ (ys : List Spot). x ∷ ys) (all_behind xs day (λ k m l. h (suc k) (omega arith) (omega arith))) ∙ sym
    (ap (λ (t : Bool). cond t (x ∷ filter (is_behind day) xs) (filter (is_behind day) xs)) e)

pub behind_from : (xs : List Spot) (day : Day) (at : ℕ) → at ≤ length xs → AreThrough xs day at → AreBehind xs day at
    → drop at xs ≡ filter (is_behind day) xs
behind_from xs day zero bound through behind = all_behind xs day behind
behind_from [] day (suc at) bound through behind = absurd (omega arith)
behind_from (x ∷ xs) day (suc at) bound through behind =
    let e : is_behind day x ≡ false = let a = through 0 (omega arith) in grind (arith, ints) in
    behind_from xs day at (omega arith) (λ k m. through (suc k) (omega arith))
    (λ k m l. behind (suc k) (omega arith) (omega arith)) ∙ sym
    (ap (λ (t : Bool). cond t (x ∷ filter (is_behind day) xs) (filter (is_behind day) xs)) e)

-- ---- rows of spots
abbrev pub found : List (List Spot) → Option ℕ → List Spot
found rows o = option_map_or (λ (n : ℕ). get_or rows n []) o []

pub replaced_kept : (rows : List (List Spot)) (row : ℕ) (now : List Spot) (o : Option ℕ) (s : Spot) → row < length rows
    → ((x : Spot) → Contains (get_or rows row []) x → Contains now x) → Contains (found rows o) s
    → Contains (found (set rows row now) o) s
replaced_kept rows row now None s l kept h = h
replaced_kept rows row now (Some n) s l kept h = by_place (cases_lt n row) (cases_lt row n)
  where
    other : (n ≡ row → ⊥) → Contains (get_or (set rows row now) n []) s
    other e = subst (λ (xs : List Spot). Contains xs s) (sym (get_or-set_other rows row n now [] e)) h

    by_place : (n < row) ⊎ (row ≤ n) → (row < n) ⊎ (n ≤ row) → Contains (get_or (set rows row now) n []) s
    by_place (inl a) b = other (λ e. omega arith)
    by_place (inr a) (inl b) = other (λ e. omega arith)
    by_place (inr a) (inr b) =
        let e : n ≡ row = omega arith in
        subst (λ (k : ℕ). Contains (get_or (set rows row now) k []) s) (sym e)
        (subst (λ (xs : List Spot). Contains xs s) (sym (get_or-set_same rows row now [] l))
        (kept s (subst (λ (k : ℕ). Contains (get_or rows k []) s) e h)))

pub pushed_kept : (rows : List (List Spot)) (new : List Spot) (o : Option ℕ) (s : Spot) → Contains (found rows o) s
    → Contains (found (rows ++ new ∷ []) o) s
pushed_kept rows new None s h = h
pushed_kept rows new (Some n) s h = by_place (cases_lt n (length rows))
  where
    by_place : (n < length rows) ⊎ (length rows ≤ n) → Contains (get_or (rows ++ new ∷ []) n []) s
    by_place (inl a) = subst (λ (xs : List Spot). Contains xs s) (sym (get_or_append_left rows (new ∷ []) [] n a)) h
    by_place (inr a) = absurd (let k : Contains [] s =
        subst (λ (xs : List Spot). Contains xs s) (get_or_past rows n [] a) h in omega (arith, k.1))

-- a row that is made for a name that has none
pub made_kept : (name : List ℕ) (old now : BTreeMap (Vec ℕ Global) ℕ) (rows more : List (List Spot)) (new : List Spot)
    (number : ℕ) → Puts name old now number → more ≡ rows ++ new ∷ [] → found rows (under name old) ≡ [] →
    (a : List ℕ) (s : Spot) → Contains (found rows (under a old)) s → Contains (found more (under a now)) s
made_kept name old now rows more new number put e none a s h = by_test (bytes_eq name a) refl
  where
    by_test : (t : Bool) → bytes_eq name a ≡ t → Contains (found more (under a now)) s
    by_test true f =
        let k : Contains [] s = subst (λ (xs : List Spot). Contains xs s) none
        (subst (λ (b : List ℕ). Contains (found rows (under b old)) s) (sym ((bytes_eq-Decides name a).0 f)) h) in
        absurd (omega (arith, k.1))
    by_test false f =
        subst (λ (xs : List (List Spot)). Contains (found xs (under a now)) s) (sym e)
        (subst (λ (o : Option ℕ). Contains (found (rows ++ new ∷ []) o) s)
        (sym (under_other name old now number put a f)) (pushed_kept rows new (under a old) s h))

pub made_put : (name : List ℕ) (old now : BTreeMap (Vec ℕ Global) ℕ) (rows more : List (List Spot)) (new : List Spot)
    (number : ℕ) (s : Spot) → Puts name old now number → more ≡ rows ++ new ∷ [] → number ≡ length rows → Contains new s
    → Contains (found more (under name now)) s
made_put name old now rows more new number s put e f h =
    subst (λ (xs : List (List Spot)). Contains (found xs (under name now)) s) (sym e)
    (subst (λ (o : Option ℕ). Contains (found (rows ++ new ∷ []) o) s) (sym put.1)
    (subst (λ (n : ℕ). Contains (get_or (rows ++ new ∷ []) n []) s) (sym f)
    (subst (λ (xs : List Spot). Contains xs s) (sym (get_or-append_seam rows new [] [])) h)))

-- the rest of a row from where the search ends, of lists that are the row
pub behind_rest : (row seen rest : List Spot) (day : Day) (at : ℕ) → seen ≡ row → rest ≡ row → at ≤ length seen
    → AreThrough seen day at → AreBehind seen day at
    → take (length rest - at) (drop at rest) ≡ filter (is_behind day) row
behind_rest row seen rest day at e f bound through behind =
    take_all (length rest - at) (drop at rest) (omega (arith, length-drop at rest)) ∙ ap (drop at) (f ∙ sym e) ∙
    behind_from seen day at bound through behind ∙ ap (filter (is_behind day)) e
