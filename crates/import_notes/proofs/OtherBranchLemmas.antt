-- records that are found by a mark, and how many are held
use Rattle.std.proofs.Common.{◌≡◌, ◌<◌, ◌+◌, ◌∙◌, ap, sym, subst, refl, cond, ℕ, Bool, true, false, List, [], ◌∷◌}
use Rattle.std.proofs.Common.{length, drop, get_or, Option, Some, None}
use Rattle.std.specs.Prelude.{find}
use Rattle.std.specs.List.{count_by, AllByRecursion}
use Rattle.money_core.specs.declared.style.Style.{Style}
use Rattle.treasury_state.specs.declared.record.Record.{Record}
use Rattle.treasury_state.specs.declared.state.Branch.{Branch as Kept}
use Rattle.treasury_state.specs.Federation.{Federation}
use Rattle.treasury_state.specs.Seen.{branches_of}
use Rattle.money_core.proofs.ListLemmas.{drop_at}
use Rattle.import_notes.specs.OtherBranch.{is_held_so, more_holding, most_from}

-- what all are is the one that is found
found_at : {X : Type 0} (P : X → Type 0) (p : X → Bool) (y x : X) (xs : List X) (t : Bool) → P y
    → (find p xs ≡ Some x → P x) → cond t (Some y) (find p xs) ≡ Some x → P x
found_at P p y x xs true h k e = let same : y ≡ x = cc in subst P same h
found_at P p y x xs false h k e = k e

pub all_find : {X : Type 0} (P : X → Type 0) (p : X → Bool) (xs : List X) (x : X) → AllByRecursion P xs
    → find p xs ≡ Some x → P x
all_find P p [] x h e = absurd cc
all_find P p (y ∷ xs) x h e = found_at P p y x xs (p y) h.0 (all_find P p xs x h.1) e

-- nothing is held by no records
pub none_held : (styles : List Style) (new : List Record) → count_by (is_held_so styles []) new ≡ 0
none_held styles [] = refl
none_held styles (r ∷ rs) = none_held styles rs

-- one more branch
pub most_next : {L : Type 0} (f : Federation) (branch : List ℕ) (new : List Record) (bs : List (Kept L)) (i : ℕ)
    (x : Kept L) (most next : Option (List ℕ × ℕ)) (name : List ℕ) (all : Option (List ℕ × ℕ)) → i < length bs
    → x ≡ get_or bs i x → name ≡ x.name → next ≡ more_holding f branch new most name
    → most_from f branch new most (branches_of (drop i bs)) ≡ all
    → most_from f branch new next (branches_of (drop (i + 1) bs)) ≡ all
most_next {L = L} f branch new bs i x most next name all h e same more before =
    ap (λ (m : Option (List ℕ × ℕ)). most_from f branch new m (branches_of (drop (i + 1) bs)))
    (more ∙ ap (λ (n : List ℕ). more_holding f branch new most n) same)
    ∙ ap (λ (ys : List (Kept L)). most_from f branch new most (branches_of ys)) (sym (drop_at bs i x h e))
    ∙ before
