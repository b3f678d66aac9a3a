-- the names of branches, put in order one after another
use Rattle.std.proofs.Common.{◌≡◌, ℕ, ◌+◌, ◌<◌, List, [], ◌∷◌, ◌++◌, length, take, get_or, refl, ap, ◌∙◌, sym}
use Rattle.std.proofs.Common.{subst, ◌⊎◌, inl, inr}
use Rattle.std.specs.Prelude.{◌↔◌, Contains}
use Rattle.std.specs.List.Sorted.{IsStrictlySortedBy}
use Rattle.std.proofs.lemmas.List.{take_more}
use Rattle.std.proofs.lemmas.List.Elements.{Contains-append_left, Contains-push, Contains-push_cases}
use Rattle.book_core.specs.Account.{name_cmp}
use Rattle.book_core.specs.Accounts.{ordered_names}
use Rattle.book_core.proofs.AccountOrder.{same_names, ordered_names_ascend, Contains-ordered_names}
use Rattle.treasury_state.specs.declared.state.Branch.{Branch as Kept}
use Rattle.treasury_state.specs.Seen.{branches_of}
use Rattle.treasury_state.specs.Federation.{names_of}

-- the names of the first ones, in order
pub record InOrder (names all : List (List ℕ)) : Type 0 where
  pub sorted : IsStrictlySortedBy name_cmp names
  pub exact : (x : List ℕ) → Contains names x ↔ Contains all x

IsStrictlySortedBy-nil : IsStrictlySortedBy name_cmp []
unfolding IsStrictlySortedBy
IsStrictlySortedBy-nil = tt

pub none_in_order : (names : List (List ℕ)) → names ≡ [] → InOrder names []
none_in_order names e = subst (λ (xs : List (List ℕ)). InOrder xs []) (sym e)
    (record { sorted = IsStrictlySortedBy-nil; exact = λ x. ((λ h. h), (λ h. h)) })

names-append : {L : Type 0} (xs : List (Kept L)) (b : Kept L)
    → names_of (branches_of (xs ++ b ∷ [])) ≡ names_of (branches_of xs) ++ b.name ∷ []
names-append [] b = refl
names-append (x ∷ xs) b = ap (λ (l : List (List ℕ)). x.name ∷ l) (names-append xs b)

pub names_more : {L : Type 0} (xs : List (Kept L)) (i : ℕ) (b : Kept L) → i < length xs → b ≡ get_or xs i b
    → names_of (branches_of (take (i + 1) xs)) ≡ names_of (branches_of (take i xs)) ++ b.name ∷ []
names_more {L} xs i b below e =
    ap (λ (l : List (Kept L)). names_of (branches_of l))
    (take_more xs i b below ∙ ap (λ (y : Kept L). take i xs ++ y ∷ []) (sym e)) ∙ names-append (take i xs) b

pub one_more : (old new all more : List (List ℕ)) (name : List ℕ) → InOrder old all → IsStrictlySortedBy name_cmp new
    → ((x : List ℕ) → Contains new x ↔ (Contains old x ⊎ (x ≡ name))) → more ≡ all ++ name ∷ [] → InOrder new more
one_more old new all more name h sorted put e =
    record {
      sorted = sorted;
      exact = λ x. (
        (λ k. subst (λ (xs : List (List ℕ)). Contains xs x) (sym e) (forth x ((put x).0 k))),
        (λ k. (put x).1 (back x (Contains-push_cases all name x (subst (λ (xs : List (List ℕ)). Contains xs x) e k)))),
      );
    }
  where
    forth : (x : List ℕ) → Contains old x ⊎ (x ≡ name) → Contains (all ++ name ∷ []) x
    forth x (inl k) = Contains-append_left all (name ∷ []) x ((h.exact x).0 k)
    forth x (inr k) = subst (Contains (all ++ name ∷ [])) (sym k) (Contains-push all name)

    back : (x : List ℕ) → Contains all x ⊎ (name ≡ x) → Contains old x ⊎ (x ≡ name)
    back x (inl k) = inl ((h.exact x).1 k)
    back x (inr k) = inr (sym k)

pub all_in_order : (names all : List (List ℕ)) → InOrder names all → names ≡ ordered_names all
all_in_order names all h = same_names names (ordered_names all) h.sorted (ordered_names_ascend all)
    (λ x. (
      (λ k. (Contains-ordered_names all x).1 ((h.exact x).0 k)),
      (λ k. (h.exact x).1 ((Contains-ordered_names all x).0 k)),
    ))
