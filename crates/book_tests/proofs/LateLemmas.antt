-- an assertion that a check names
use Rattle.std.proofs.Common.{◌≡◌, ◌≤◌, ◌⊎◌, Bool, true, false, List, [], ◌∷◌, length, arith, refl, ap, ◌∙◌, sym, subst}
use Rattle.std.proofs.Common.{nat_lt, Option, Some, Err, inl, inr}
use Rattle.std.specs.Prelude.{if◌then◌else◌, option_map, Contains, IfSome}
use Rattle.std.specs.List.Sorted.{IsStrictlySortedBy}
use Rattle.std.proofs.lemmas.Bool.Decides.{nat_tests}
use Rattle.money_core.specs.declared.cause.Cause.TheVariants.{OutOfMemory, Full, Limit}
use Rattle.book_core.specs.declared.place.Place.{Place}
use Rattle.book_core.specs.declared.entry.Entry.{Entry}
use Rattle.book_core.specs.declared.refusal.Failure.{Failure}
use Rattle.book_core.specs.declared.refusal.Refusal.{Refusal}
use Rattle.book_core.specs.declared.refusal.Refusal.TheVariants.{Plain, ClaimFailed}
use Rattle.book_core.specs.declared.claim.Asserted.{Asserted}
use Rattle.book_core.specs.Claim.{asserted_from, IsFirstFailure, failure}
use Rattle.book_core.specs.Examine.{ArePlaces}
use Rattle.book_core.specs.GoodBook.{most_entries, is_over, verdict, Checks, IsWithin}
use Rattle.book_core.proofs.HoldLemmas.{failure_some}
use Rattle.book_core.proofs.NamedLemmas.{failed_parts}
use Rattle.book_core.proofs.ExamineLemmas.{cons_cases, none_in}

-- an answer 29 is the verdict
pub failed_by : (b : List Entry) (e : Refusal) (f : Failure) → Checks b (Err e) → e ≡ ClaimFailed f
    → verdict b ≡ Some (ClaimFailed f)
failed_by b e f (inl memory) is = absurd (let h : ClaimFailed f ≡ Plain OutOfMemory = sym is ∙ memory in cc)
failed_by b e f (inr failed) is = failed ∙ ap (λ (x : Refusal). Some x) is

few_failed : (b : List Entry) (f : Failure) → verdict b ≡ Some (ClaimFailed f) → length b ≤ most_entries
unfolding verdict
few_failed b f h = by_test (nat_lt most_entries (length b)) refl h
  where
    by_test : (t : Bool) → nat_lt most_entries (length b) ≡ t
        → (if t then Some (Plain Full)
        else (if is_over b then Some (Plain Limit) else option_map ClaimFailed (failure b))) ≡ Some (ClaimFailed f)
        → length b ≤ most_entries
    by_test true e k = absurd (cc)
    by_test false e k = grind (arith, nat_tests)

-- a book whose check is answered 29 is within the limits
pub within_failed : (b : List Entry) (f : Failure) → verdict b ≡ Some (ClaimFailed f) → IsWithin b
within_failed b f h = record { few = few_failed b f h; small = (failed_parts b f h).0 }

-- and the place that it names is that of an assertion
pub place_failed : (b : List Entry) (f : Failure) → verdict b ≡ Some (ClaimFailed f) → ArePlaces b (f.place ∷ [])
unfolding IsStrictlySortedBy
place_failed b f h = record { ascending = (tt, tt); claims = λ p inside. by_case p (cons_cases f.place p [] inside) }
  where
    is : IsFirstFailure b f
    is = subst (λ (o : Option Failure). IfSome o (IsFirstFailure b)) (failed_parts b f h).1 (failure_some b)

    by_case : (p : Place) → (f.place ≡ p) ⊎ Contains [] p
        → (x : Asserted) × Contains (asserted_from 1 b) x × (x.place ≡ p)
    by_case p (inl same) = (is.assertion, is.in_book, subst (λ (q : Place). is.assertion.place ≡ q) same (sym is.place))
    by_case p (inr none) = absurd (none_in p none)
