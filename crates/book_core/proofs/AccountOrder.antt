-- the accounts of a book as one list
use Rattle.std.proofs.Common.{◌≡◌, ℕ, Bool, true, false, List, [], ◌∷◌, arith, refl, ap, ◌∙◌, sym, subst, ◌⊎◌, inl, inr}
use Rattle.std.proofs.Common.{Ordering}
use Rattle.std.specs.Prelude.{◌↔◌, Contains, IsTrue}
use Rattle.std.specs.Ordering.{ordering_reverse}
use Rattle.std.specs.List.{AllByRecursion}
use Rattle.std.specs.List.Sorted.{IsStrictlySortedBy}
use Rattle.std.specs.BTreeSet.{BTreeSet, contains}
use Rattle.std.specs.declared.cmp.Ordering.TheVariants.{Less, Equal, Greater}
use Rattle.std.proofs.lemmas.List.Elements.{Contains-append_left, Contains-append_right, Contains-append_cases}
use Rattle.std.proofs.lemmas.List.Elements.{Contains-push, Contains-push_cases}
use Rattle.std.proofs.lemmas.Map.Lookups.{btree_set_from_contains, exact_bytes}
use Rattle.std.proofs.lemmas.Map.Views.{btree_set_contains_iff}
use Rattle.book_core.specs.declared.entry.Entry.{Entry}
use Rattle.book_core.specs.Account.{name_cmp}
use Rattle.book_core.specs.Book.{legs_of, accounts_of, AreAccountsOf}
use Rattle.book_core.proofs.AccountListLemmas.{names_total}
use Rattle.book_core.specs.Accounts.{placed_name, with_name, ordered_names, book_accounts}

-- the elements of a list with one more in front
Contains-cons : (first : List ℕ) (rest : List (List ℕ)) (x : List ℕ)
    → Contains (first ∷ rest) x ↔ ((x ≡ first) ⊎ Contains rest x)
Contains-cons first rest x = (split, join)
  where
    of_one : Contains [] x ⊎ (first ≡ x) → (x ≡ first) ⊎ Contains rest x
    of_one (inl h) = absurd (omega (arith, h.1))
    of_one (inr e) = inl (sym e)

    of_two : Contains (first ∷ []) x ⊎ Contains rest x → (x ≡ first) ⊎ Contains rest x
    of_two (inl h) = of_one (Contains-push_cases [] first x h)
    of_two (inr h) = inr h

    split : Contains (first ∷ rest) x → (x ≡ first) ⊎ Contains rest x
    split h = of_two (Contains-append_cases (first ∷ []) rest x h)

    join : (x ≡ first) ⊎ Contains rest x → Contains (first ∷ rest) x
    join (inl e) =
        Contains-append_left (first ∷ []) rest x (subst (Contains (first ∷ [])) (sym e) (Contains-push [] first))
    join (inr h) = Contains-append_right (first ∷ []) rest x h

-- a name that is put before a list, into it, or nowhere
Contains-placed : (name first : List ℕ) (rest more : List (List ℕ)) (x : List ℕ)
    → Contains more x ↔ ((x ≡ name) ⊎ Contains rest x) → (o : Ordering) → name_cmp name first ≡ o
    → Contains (placed_name o name first rest more) x ↔ ((x ≡ name) ⊎ Contains (first ∷ rest) x)
Contains-placed name first rest more x later Less e = Contains-cons name (first ∷ rest) x
Contains-placed name first rest more x later Equal e = (inr, back)
  where
    back : (x ≡ name) ⊎ Contains (first ∷ rest) x → Contains (first ∷ rest) x
    back (inl same) = (Contains-cons first rest x).1 (inl (same ∙ exact_bytes name first e))
    back (inr h) = h
Contains-placed name first rest more x later Greater e = ((λ h. forth ((Contains-cons first more x).0 h)), back)
  where
    within : (x ≡ name) ⊎ Contains rest x → (x ≡ name) ⊎ Contains (first ∷ rest) x
    within (inl same) = inl same
    within (inr h) = inr ((Contains-cons first rest x).1 (inr h))

    forth : (x ≡ first) ⊎ Contains more x → (x ≡ name) ⊎ Contains (first ∷ rest) x
    forth (inl same) = inr ((Contains-cons first rest x).1 (inl same))
    forth (inr h) = within (later.0 h)

    of_old : (x ≡ first) ⊎ Contains rest x → Contains (first ∷ more) x
    of_old (inl same) = (Contains-cons first more x).1 (inl same)
    of_old (inr h) = (Contains-cons first more x).1 (inr (later.1 (inr h)))

    back : (x ≡ name) ⊎ Contains (first ∷ rest) x → Contains (first ∷ more) x
    back (inl same) = (Contains-cons first more x).1 (inr (later.1 (inl same)))
    back (inr h) = of_old ((Contains-cons first rest x).0 h)

-- a list with one name more has the name, and what it had
pub Contains-with_name : (name : List ℕ) (names : List (List ℕ)) (x : List ℕ)
    → Contains (with_name name names) x ↔ ((x ≡ name) ⊎ Contains names x)
Contains-with_name name [] x = Contains-cons name [] x
Contains-with_name name (first ∷ rest) x =
    Contains-placed name first rest (with_name name rest) x (Contains-with_name name rest x) (name_cmp name first) refl

-- what is below a name and below each of a list is below each of the list with the name
below_placed : (low name first : List ℕ) (rest more : List (List ℕ)) → name_cmp low name ≡ Less
    → AllByRecursion (λ y. name_cmp low y ≡ Less) (first ∷ rest) → AllByRecursion (λ y. name_cmp low y ≡ Less) more
    → (o : Ordering) → AllByRecursion (λ y. name_cmp low y ≡ Less) (placed_name o name first rest more)
below_placed low name first rest more h all later Less = (h, all)
below_placed low name first rest more h all later Equal = all
below_placed low name first rest more h all later Greater = (all.0, later)

below_with_name : (low name : List ℕ) (names : List (List ℕ)) → name_cmp low name ≡ Less
    → AllByRecursion (λ y. name_cmp low y ≡ Less) names
    → AllByRecursion (λ y. name_cmp low y ≡ Less) (with_name name names)
below_with_name low name [] h all = (h, all)
below_with_name low name (first ∷ rest) h all =
    below_placed low name first rest (with_name name rest) h all (below_with_name low name rest h all.1)
    (name_cmp name first)

-- what is below a name is below what that name is below
below_all : (low name : List ℕ) (names : List (List ℕ)) → name_cmp low name ≡ Less
    → AllByRecursion (λ y. name_cmp name y ≡ Less) names → AllByRecursion (λ y. name_cmp low y ≡ Less) names
below_all low name [] h all = all
below_all low name (first ∷ rest) h all = (names_total.trans low name first h all.0, below_all low name rest h all.1)

-- a list in byte order stays so
placed_ascends : (name first : List ℕ) (rest : List (List ℕ)) → IsStrictlySortedBy name_cmp (first ∷ rest)
    → IsStrictlySortedBy name_cmp (with_name name rest) → (o : Ordering) → name_cmp name first ≡ o
    → IsStrictlySortedBy name_cmp (placed_name o name first rest (with_name name rest))
unfolding IsStrictlySortedBy
placed_ascends name first rest sorted later Less e = ((e, below_all name first rest e sorted.0), sorted)
placed_ascends name first rest sorted later Equal e = sorted
placed_ascends name first rest sorted later Greater e =
    (below_with_name first name rest (names_total.antisymm first name ∙ ap ordering_reverse e) sorted.0, later)

pub with_name_ascends : (name : List ℕ) (names : List (List ℕ)) → IsStrictlySortedBy name_cmp names
    → IsStrictlySortedBy name_cmp (with_name name names)
unfolding IsStrictlySortedBy
with_name_ascends name [] sorted = (tt, tt)
with_name_ascends name (first ∷ rest) sorted =
    placed_ascends name first rest sorted (with_name_ascends name rest sorted.1) (name_cmp name first) refl

pub ordered_names_ascend : (names : List (List ℕ)) → IsStrictlySortedBy name_cmp (ordered_names names)
unfolding IsStrictlySortedBy
ordered_names_ascend [] = tt
ordered_names_ascend (name ∷ names) = with_name_ascends name (ordered_names names) (ordered_names_ascend names)

-- a name is among the names, each once, as it is among the names
same_beside : (A B C : Type 0) → B ↔ C → (A ⊎ B) ↔ (A ⊎ C)
same_beside A B C h = (forth, back)
  where
    forth : A ⊎ B → A ⊎ C
    forth (inl a) = inl a
    forth (inr b) = inr (h.0 b)

    back : A ⊎ C → A ⊎ B
    back (inl a) = inl a
    back (inr c) = inr (h.1 c)

pub Contains-ordered_names : (names : List (List ℕ)) (x : List ℕ) → Contains (ordered_names names) x ↔ Contains names x
Contains-ordered_names [] x = ((λ h. h), (λ h. h))
Contains-ordered_names (name ∷ names) x =
    let placed = Contains-with_name name (ordered_names names) x in
    let front = Contains-cons name names x in
    let beside =
    same_beside (x ≡ name) (Contains (ordered_names names) x) (Contains names x) (Contains-ordered_names names x) in
    ((λ h. front.1 (beside.0 (placed.0 h))), (λ h. placed.1 (beside.1 (front.0 h))))

-- the definition gives the accounts of the book, each once, in byte order
pub book_accounts_are : (entries : List Entry) → AreAccountsOf entries (book_accounts entries)
unfolding book_accounts
book_accounts_are entries = record {
  ascending = ordered_names_ascend (accounts_of (legs_of entries));
  exact = λ name.
      Contains-ordered_names (accounts_of (legs_of entries)) name;
}

same_test : (a b : Bool) → (IsTrue a → IsTrue b) → (IsTrue b → IsTrue a) → a ≡ b
same_test true true h k = refl
same_test false false h k = refl
same_test true false h k = sym (h refl)
same_test false true h k = k refl

-- two lists in byte order with the same names are one
pub same_names : (xs ys : List (List ℕ)) → IsStrictlySortedBy name_cmp xs → IsStrictlySortedBy name_cmp ys
    → ((x : List ℕ) → Contains xs x ↔ Contains ys x) → xs ≡ ys
same_names xs ys h k same = btree_set_from_contains names_total s t h k
    (λ q. same_test (contains name_cmp s q) (contains name_cmp t q) (λ a. (held t q).1 ((same q).0 ((held s q).0 a)))
    (λ a. (held s q).1 ((same q).1 ((held t q).0 a)))) exact_bytes
  where
    s : BTreeSet (List ℕ)
    s = record { keys = xs }

    t : BTreeSet (List ℕ)
    t = record { keys = ys }

    held : (u : BTreeSet (List ℕ)) (q : List ℕ) → IsTrue (contains name_cmp u q) ↔ Contains u.keys q
    held u q = btree_set_contains_iff names_total exact_bytes u q

-- a book has only one list of its accounts
pub accounts_are_one : (entries : List Entry) (names : List (List ℕ)) → AreAccountsOf entries names
    → names ≡ book_accounts entries
accounts_are_one entries names h =
    let own = book_accounts_are entries in
    same_names names (book_accounts entries) h.ascending own.ascending
    (λ x. ((λ a. (own.exact x).1 ((h.exact x).0 a)), (λ a. (h.exact x).1 ((own.exact x).0 a))))
