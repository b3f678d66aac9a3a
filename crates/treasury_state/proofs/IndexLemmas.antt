-- texts and their places in a list: marks of records, names of branches
use Rattle.std.proofs.Common.{◌≡◌, ℕ, suc, ◌+◌, Bool, true, false, cond, List, [], ◌∷◌, ◌++◌, length, refl, get_or, ap}
use Rattle.std.proofs.Common.{◌∙◌, sym, arith, Option, Some, None}
use Rattle.std.specs.Option.{option_or, unwrap_or, is_some}
use Rattle.std.specs.Prelude.{find, if◌then◌else◌, IfSome, option_copied, nat_lt}
use Rattle.std.specs.List.{slice_get, position_from}
use Rattle.std.specs.Str.{bytes_eq}
use Rattle.std.proofs.lemmas.Slice.Eq.{bytes_eq-Decides}
use Rattle.std.proofs.lemmas.Option.{slice_get_read, slice_get_past}
use Rattle.std.proofs.lemmas.Bool.Decides.{nat_tests}
use denote.Ref.{Bor}
use Rattle.std.specs.HashMap.{HashMap, get_by_text}
use Rattle.std.specs.declared.string.String.{String}
use Rattle.std.specs.declared.alloc.Global.{Global}
use Rattle.std.specs.declared.hash.FoldHasher.{FoldHasher}
use Rattle.std.specs.declared.hash.BuildHasherDefault.{BuildHasherDefault}
use Rattle.treasury_state.specs.declared.record.Record.{Record}
use Rattle.treasury_state.specs.Federation.{Branch, has_name, name_place, branch_at}
use Rattle.treasury_state.specs.Joined.{changed}
use Rattle.treasury_state.specs.Mark.{has_mark, held}
use Rattle.treasury_state.specs.Index.{mark_place}
use Rattle.treasury_state.specs.Kept.{branch_place, ArePlacesOf}

abbrev pub Index : Type 0
Index = HashMap (String Global) ℕ (BuildHasherDefault FoldHasher)

-- ---- what stands at a place
abbrev pub FoundAt : {X : Type 0} → (X → Bool) → ℕ → List X → ℕ → Type 0
FoundAt p k xs i = (j : ℕ) × (i ≡ k + j) × (find p xs ≡ slice_get xs j)

some_is : (k i : ℕ) (e : ◌≡◌ {A = Option ℕ} (Some k) (Some i)) → k ≡ i
some_is k i e = ap (λ (o : Option ℕ). unwrap_or o 0) e

found_at : {X : Type 0} (p : X → Bool) (k : ℕ) (x : X) (xs : List X) (i : ℕ) (t : Bool)
    → cond t (Some k) (position_from p (k + 1) xs) ≡ Some i
    → (position_from p (k + 1) xs ≡ Some i → FoundAt p (k + 1) xs i)
    → (j : ℕ) × (i ≡ k + j) × (cond t (Some x) (find p xs) ≡ slice_get (x ∷ xs) j)
found_at p k x xs i true e h = (0, (let f = some_is k i e in omega arith), refl)
found_at p k x xs i false e h = let f = h e in (suc f.0, (let g = f.1 in omega arith), f.2)

found_from : {X : Type 0} (p : X → Bool) (k : ℕ) (xs : List X) (i : ℕ) → position_from p k xs ≡ Some i
    → FoundAt p k xs i
found_from p k [] i e = absurd (cc)
found_from p k (x ∷ xs) i e = found_at p k x xs i (p x) e (found_from p (k + 1) xs i)

found_in : {X : Type 0} (p : X → Bool) (xs : List X) (i : ℕ) → position_from p 0 xs ≡ Some i
    → find p xs ≡ slice_get xs i
found_in p xs i e = let f = found_from p 0 xs i e in f.2 ∙ ap (slice_get xs) (let g = f.1 in omega arith)

pub held_at_mark_place : (rs : List Record) (m : List ℕ) (i : ℕ) → mark_place rs m ≡ Some i → held rs m ≡ slice_get rs i
held_at_mark_place rs m i e = found_in (has_mark m) rs i e

pub found_branch : (bs : List Branch) (name : List ℕ) (i : ℕ) → branch_place bs name ≡ Some i
    → branch_at bs name ≡ slice_get bs i
found_branch bs name i e = found_in (has_name name) bs i e

absent_at : {X : Type 0} (p : X → Bool) (k : ℕ) (x : X) (xs : List X) (t : Bool)
    → cond t (Some k) (position_from p (k + 1) xs) ≡ None → (position_from p (k + 1) xs ≡ None → find p xs ≡ None)
    → cond t (Some x) (find p xs) ≡ None
absent_at p k x xs true e h = absurd (cc)
absent_at p k x xs false e h = h e

absent_from : {X : Type 0} (p : X → Bool) (k : ℕ) (xs : List X) → position_from p k xs ≡ None → find p xs ≡ None
absent_from p k [] e = refl
absent_from p k (x ∷ xs) e = absent_at p k x xs (p x) e (absent_from p (k + 1) xs)

pub held_without_mark_place : (rs : List Record) (m : List ℕ) → mark_place rs m ≡ None → held rs m ≡ None
held_without_mark_place rs m e = absent_from (has_mark m) 0 rs e

pub absent_branch : (bs : List Branch) (name : List ℕ) → branch_place bs name ≡ None → branch_at bs name ≡ None
absent_branch bs name e = absent_from (has_name name) 0 bs e

-- ---- one more at the end
place_at : {X : Type 0} (p : X → Bool) (k : ℕ) (xs : List X) (y : X) (t : Bool)
    → position_from p (k + 1) (xs ++ y ∷ [])
    ≡ option_or (position_from p (k + 1) xs) (cond (p y) (Some (k + 1 + length xs)) None)
    → cond t (Some k) (position_from p (k + 1) (xs ++ y ∷ []))
    ≡ option_or (cond t (Some k) (position_from p (k + 1) xs)) (cond (p y) (Some (k + suc (length xs))) None)
place_at p k xs y true h = refl
place_at p k xs y false h =
    h ∙ ap (λ (n : ℕ). option_or (position_from p (k + 1) xs) (cond (p y) (Some n) None)) (omega arith)

place_push : {X : Type 0} (p : X → Bool) (k : ℕ) (xs : List X) (y : X)
    → position_from p k (xs ++ y ∷ []) ≡ option_or (position_from p k xs) (cond (p y) (Some (k + length xs)) None)
place_push p k [] y = ap (λ (n : ℕ). cond (p y) (Some n) None) (omega arith)
place_push p k (x ∷ xs) y = place_at p k xs y (p x) (place_push p (k + 1) xs y)

-- an index that is told of the last
pub index_pushed : {X : Type 0} (key : X → List ℕ) (old new : Index) (xs : List X) (y : X)
    → ((k : List ℕ) → get_by_text old k ≡ position_from (λ x. bytes_eq (key x) k) 0 xs)
    → ((k : List ℕ) → get_by_text new k
    ≡ option_or (get_by_text old k) (cond (bytes_eq (key y) k) (Some (length xs)) None)) → (k : List ℕ)
    → get_by_text new k ≡ position_from (λ x. bytes_eq (key x) k) 0 (xs ++ y ∷ [])
index_pushed key old new xs y h put = λ k.
    put k
    ∙ ap (λ (o : Option ℕ). option_or o (cond (bytes_eq (key y) k) (Some (length xs)) None)) (h k)
    ∙ ap (λ (n : ℕ). option_or (position_from (λ x. bytes_eq (key x) k) 0 xs) (cond (bytes_eq (key y) k) (Some n) None))
    (omega arith)
    ∙ sym (place_push (λ x. bytes_eq (key x) k) 0 xs y)

-- ---- a text that is put where it is not there yet
or_none : (o : Option ℕ) → option_or o None ≡ o
or_none None = refl
or_none (Some x) = refl

new_at : (look : List ℕ → Option ℕ) (text k : List ℕ) (n : ℕ) (t : Bool) → bytes_eq text k ≡ t
    → is_some (look text) ≡ false → cond t (Some n) (look k) ≡ option_or (look k) (cond t (Some n) None)
new_at look text k n true e h =
    by_cases (look k) (ap (λ (x : List ℕ). is_some (look x)) (sym ((bytes_eq-Decides text k).0 e)) ∙ h)
  where
    by_cases : (o : Option ℕ) → is_some o ≡ false → Some n ≡ option_or o (Some n)
    by_cases None f = refl
    by_cases (Some x) f = absurd (cc)
new_at look text k n false e h = sym (or_none (look k))

pub put_new : (look : List ℕ → Option ℕ) (text k : List ℕ) (n : ℕ) → is_some (look text) ≡ false
    → cond (bytes_eq text k) (Some n) (look k) ≡ option_or (look k) (cond (bytes_eq text k) (Some n) None)
put_new look text k n h = new_at look text k n (bytes_eq text k) refl h

-- ---- places of branches
next_place : (name : List ℕ) (k : ℕ) (bs : List Branch) (t : Bool)
    → k + 1 + name_place bs name ≡ unwrap_or (position_from (has_name name) (k + 1) bs) (k + 1 + length bs)
    → k + (if t then 0 else suc (name_place bs name))
    ≡ unwrap_or (cond t (Some k) (position_from (has_name name) (k + 1) bs)) (k + suc (length bs))
next_place name k bs true h = omega arith
next_place name k bs false h = omega arith ∙ h ∙ ap (unwrap_or (position_from (has_name name) (k + 1) bs)) (omega arith)

place_from : (name : List ℕ) (k : ℕ) (bs : List Branch)
    → k + name_place bs name ≡ unwrap_or (position_from (has_name name) k bs) (k + length bs)
place_from name k [] = refl
place_from name k (b ∷ bs) = next_place name k bs (bytes_eq b.name name) (place_from name (k + 1) bs)

-- the place of a branch, or the number of branches
pub place_is : (bs : List Branch) (name : List ℕ) → name_place bs name ≡ unwrap_or (branch_place bs name) (length bs)
place_is bs name = omega arith ∙ place_from name 0 bs ∙ ap (unwrap_or (branch_place bs name)) (omega arith)

kept_at : (g : Branch → Branch) (n : List ℕ) (k : ℕ) (b : Branch) (bs cs : List Branch) (t : Bool) → (g b).name ≡ b.name
    → position_from (has_name n) (k + 1) cs ≡ position_from (has_name n) (k + 1) bs
    → position_from (has_name n) k (if t then g b ∷ bs else b ∷ cs)
    ≡ cond (bytes_eq b.name n) (Some k) (position_from (has_name n) (k + 1) bs)
kept_at g n k b bs cs true same h =
    ap (λ (x : List ℕ). cond (bytes_eq x n) (Some k) (position_from (has_name n) (k + 1) bs)) same
kept_at g n k b bs cs false same h = ap (cond (bytes_eq b.name n) (Some k)) h

place_kept : (g : Branch → Branch) → ((b : Branch) → (g b).name ≡ b.name) → (name n : List ℕ) (k : ℕ) (bs : List Branch)
    → position_from (has_name n) k (changed g name bs) ≡ position_from (has_name n) k bs
place_kept g same name n k [] = refl
place_kept g same name n k (b ∷ bs) =
    kept_at g n k b bs (changed g name bs) (bytes_eq b.name name) (same b) (place_kept g same name n (k + 1) bs)

-- a change of one branch that keeps its name
pub places_kept : (places : Index) (g : Branch → Branch) → ((b : Branch) → (g b).name ≡ b.name)
    → (name : List ℕ) (bs now : List Branch) → ArePlacesOf places bs → now ≡ changed g name bs → ArePlacesOf places now
places_kept places g same name bs now h e =
    λ n. h n ∙ sym (place_kept g same name n 0 bs) ∙ ap (λ (xs : List Branch). branch_place xs n) (sym e)

-- ---- what `get` answers
pub copied_get : {X : Type 0} (o : Option (Bor X)) (xs : List X) (i : ℕ) → is_some o ≡ nat_lt i (length xs)
    → IfSome o (λ x. x.now ≡ get_or xs i x.now) → option_copied o ≡ slice_get xs i
copied_get None xs i e h = sym (slice_get_past xs i (grind (arith, nat_tests)))
copied_get (Some x) xs i e h = sym (slice_get_read xs (length xs) i x.now refl (grind (arith, nat_tests)) h)
