-- One more after others, with a comma between.
use Rattle.std.proofs.Common.{◌≡◌, ◌∙◌, ◌++◌, ◌∷◌, ℕ, List, [], Bool, true, false, refl, sym, ap, drop, append-nil}
use Rattle.std.proofs.Common.{append_assoc}
use Rattle.std.specs.Prelude.{if◌then◌else◌, codes}
use Rattle.std.specs.List.{flat_map}
use Rattle.std.proofs.Common.{map, Vec, Global, ◌<◌, ◌+◌, length, take, get_or}
use Rattle.std.proofs.lemmas.List.{drop_more, take-append-drop}
use Rattle.std.specs.Prelude.{Ok, Err}
use Rattle.std.specs.declared.alloc.AllocError.{AllocError}
use Rattle.std.proofs.lemmas.Grind.{flat_map-append}
use Rattle.std.proofs.lemmas.List.Folds.{flat_map-map}
use Rattle.json_text.specs.JsonText.{with_commas}
use Rattle.json_text.specs.Growing.{AppendsText}
use Rattle.json_text.proofs.GrowLemmas.{grows_as, grows_then, grows_stop_then}

-- whether nothing stands before
abbrev pub is_empty : {X : Type 0} → List X → Bool
is_empty [] = true
is_empty (x ∷ xs) = false

-- what one more is written as, after those before it
abbrev pub next_text : {X : Type 0} → (X → List ℕ) → List X → X → List ℕ
next_text written before x = if is_empty before then written x else codes "," ++ written x

pub with_commas_more : {X : Type 0} (written : X → List ℕ) (before : List X) (x : X)
    → with_commas written before ++ next_text written before x ≡ with_commas written (before ++ x ∷ [])
with_commas_more written [] x = sym (append-nil (written x))
with_commas_more {X} written (y ∷ ys) x =
    let piece = λ (z : X). codes "," ++ written z in
    append_assoc (written y) (flat_map piece ys) (codes "," ++ written x) ∙ ap (λ (l : List ℕ). written y ++ l)
    (ap (λ (l : List ℕ). flat_map piece ys ++ l) (sym (append-nil (piece x))) ∙ sym (flat_map-append piece ys (x ∷ [])))

-- more of them after others, of which there is one
pub with_commas_behind : {X : Type 0} (written : X → List ℕ) (before : List X) (x : X) (after : List X)
    → with_commas written (before ++ x ∷ []) ++ flat_map (λ y. codes "," ++ written y) after
    ≡ with_commas written (before ++ x ∷ after)
with_commas_behind {X} written [] x after =
    let more = flat_map (λ y. codes "," ++ written y) after in
    ap (λ (l : List ℕ). l ++ more) (append-nil (written x))
with_commas_behind {X} written (y ∷ ys) x after =
    let piece = λ (z : X). codes "," ++ written z in
    append_assoc (written y) (flat_map piece (ys ++ x ∷ [])) (flat_map piece after)
    ∙ ap (λ (l : List ℕ). written y ++ l)
    (sym (flat_map-append piece (ys ++ x ∷ []) after)
    ∙ ap (flat_map piece) (append_assoc ys (x ∷ []) after))

pub with_commas-map : {X Y : Type 0} (written : Y → List ℕ) (seen : X → Y) (xs : List X)
    → with_commas (λ x. written (seen x)) xs ≡ with_commas written (map seen xs)
with_commas-map {X} {Y} written seen xs =
    sym (ap (drop 1) (flat_map-map (λ (y : Y). codes "," ++ written y) seen xs))

pub none_is_first : {X : Type 0} (before : List X) (x : X) → false ≡ is_empty (before ++ x ∷ [])
none_is_first [] x = refl
none_is_first (y ∷ ys) x = refl

-- a list cut at one of its elements
pub cut_here : {X : Type 0} (xs : List X) (i : ℕ) (d : X) → i < length xs
    → take i xs ++ get_or xs i d ∷ drop (i + 1) xs ≡ xs
cut_here xs i d h =
    ap (λ l. take i xs ++ l) (sym (drop_more xs i d h)) ∙ take-append-drop i xs

-- ---- what calls leave that write them one after another

module _ {X : Type 0} (written : X → List ℕ) (before : List X) (x : X) (first : Bool) (old mid new : Vec ℕ Global) where
  -- what one more is written as
  abbrev next : List ℕ
  next = if first then written x else codes "," ++ written x

  next_is : first ≡ is_empty before → with_commas written before ++ next ≡ with_commas written (before ++ x ∷ [])
  next_is e =
      ap (λ (b : Bool). with_commas written before ++ (if b then written x else codes "," ++ written x)) e
      ∙ with_commas_more written before x

  pub commas_next : first ≡ is_empty before → AppendsText (with_commas written before) old mid (Ok tt)
      → AppendsText next mid new (Ok tt) → AppendsText (with_commas written (before ++ x ∷ [])) old new (Ok tt)
  commas_next e so_far one =
      grows_as (with_commas written before ++ next) (with_commas written (before ++ x ∷ [])) old new (Ok tt) (next_is e)
      (grows_then (with_commas written before) next old mid new (Ok tt) so_far one)

  pub commas_failed : (after : List X) (error : AllocError) → first ≡ is_empty before
      → AppendsText (with_commas written before) old mid (Ok tt) → AppendsText next mid new (Err error)
      → AppendsText (with_commas written (before ++ x ∷ after)) old new (Err error)
  commas_failed after error e so_far one =
      let more = flat_map (λ y. codes "," ++ written y) after in
      grows_as (with_commas written before ++ next ++ more) (with_commas written (before ++ x ∷ after)) old new
      (Err error)
      (ap (λ (l : List ℕ). l ++ more) (next_is e) ∙ with_commas_behind written before x after)
      (grows_stop_then (with_commas written before) next more old mid new error so_far one)
