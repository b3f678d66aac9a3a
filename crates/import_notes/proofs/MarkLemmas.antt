-- comments that were to be marks
use Rattle.std.proofs.Common.{◌≡◌, ◌∙◌, ℕ, Bool, true, false, cond, ◌||◌, List, [], ◌∷◌, ◌++◌, refl, ap, sym, find}
use Rattle.std.proofs.Common.{Option, Some, None}
use Rattle.std.specs.Prelude.{is_some}
use Rattle.std.specs.List.{list_any}
use Rattle.treasury_state.specs.declared.record.Record.{Record}
use Rattle.import_notes.specs.Marks.{begins_mark, names_mark, unmarked_comment, is_unmarked, unmarked_at, unmarked_in}

-- ---- a byte more of a comment
pub names_left : (xs ys : List ℕ) (x : ℕ) → xs ≡ x ∷ ys → begins_mark xs ≡ false → names_mark ys ≡ names_mark xs
names_left xs ys x split none =
    sym (ap names_mark split ∙ ap (λ (t : Bool). t || names_mark ys) (sym (ap begins_mark split) ∙ none))

-- ---- the first of two lists
or_else : {X : Type 0} → Option X → Option X → Option X
or_else (Some x) other = Some x
or_else None other = other

by_test : {X : Type 0} (x : X) (t : Bool) (all first later : Option X) → all ≡ or_else first later
    → cond t (Some x) all ≡ or_else (cond t (Some x) first) later
unfolding or_else
by_test x true all first later e = refl
by_test x false all first later e = e

find_both : {X : Type 0} (f : X → Bool) (xs ys : List X) → find f (xs ++ ys) ≡ or_else (find f xs) (find f ys)
unfolding or_else
find_both f [] ys = refl
find_both f (x ∷ xs) ys = by_test x (f x) _ _ _ (find_both f xs ys)

pub found_first : {X : Type 0} (f : X → Bool) (xs ys : List X) (x : X) → find f xs ≡ Some x → find f (xs ++ ys) ≡ Some x
unfolding or_else
found_first f xs ys x e = find_both f xs ys ∙ ap (λ o. or_else o (find f ys)) e

pub found_later : {X : Type 0} (f : X → Bool) (xs ys : List X) → find f xs ≡ None → find f (xs ++ ys) ≡ find f ys
unfolding or_else
found_later f xs ys e = find_both f xs ys ∙ ap (λ o. or_else o (find f ys)) e

-- ---- no transaction has such a comment
none_more : (n : ℕ) (o : Option (List ℕ)) (t : Bool) (rest : List (ℕ × List ℕ)) → (is_some o || t) ≡ false
    → (t ≡ false → rest ≡ []) → unmarked_at n o ++ rest ≡ []
none_more n None t rest h more = more h
none_more n (Some c) t rest h more = absurd cc

pub none_unmarked : (line : Record → ℕ) (rs : List Record) → list_any is_unmarked rs ≡ false → unmarked_in line rs ≡ []
none_unmarked line [] e = refl
none_unmarked line (r ∷ rs) e =
    none_more (line r) (unmarked_comment r) (list_any is_unmarked rs) (unmarked_in line rs) e (none_unmarked line rs)
