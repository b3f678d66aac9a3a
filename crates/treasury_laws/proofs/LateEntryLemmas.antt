-- a file that would break an assertion is refused, and changes nothing
use Rattle.std.proofs.Common.{◌≡◌, ◌++◌, List, [], ◌∷◌, Bool, true, not, Option, Some, None, Result, Ok, Err, length}
use Rattle.std.proofs.Common.{arith, refl, ap, ◌∙◌, sym, subst, inl, inr, if◌then◌else◌, ℕ}
use Rattle.std.specs.Prelude.{Contains, IsErr, option_map}
use Rattle.std.specs.List.{AllByRecursion}
use Rattle.std.specs.Option.{option_or}
use Rattle.money_core.specs.declared.cause.Cause.TheVariants.{UnknownBranch}
use Rattle.book_core.specs.declared.entry.Entry.{Entry}
use Rattle.book_core.specs.declared.refusal.Failure.{Failure}
use Rattle.book_core.specs.declared.refusal.Refusal.{Refusal}
use Rattle.book_core.specs.declared.refusal.Refusal.TheVariants.{Plain, ClaimFailed}
use Rattle.book_core.specs.Claim.{asserted_from, Holds, IsFirstFailure, failure}
use Rattle.book_core.specs.GoodBook.{IsWithin, verdict}
use Rattle.book_core.proofs.HoldLemmas.{contains_cons, failure_none, failure_first}
use Rattle.book_core.proofs.GoodBookLemmas.{failure_from}
use Rattle.book_core.proofs.CommodityLemmas.{over_none}
use Rattle.book_core.proofs.VerdictLemmas.{verdict_claims}
use Rattle.journal_format.specs.declared.txn.Located.{Located}
use Rattle.treasury_state.specs.Federation.{Federation, has_branch, records_of, lock_of, entries, book_of}
use Rattle.treasury_core.specs.declared.command.Answer.{Answer}
use Rattle.treasury_core.specs.declared.command.Command.TheVariants.{Enter}
use Rattle.treasury_core.specs.Step.{unless, entered_answer, unbalanced, refused_in, records_in_file, new_records}
use Rattle.treasury_core.specs.Step.{enter_refusal, reply, after}
use Rattle.treasury_core.specs.Run.{Replies}
use Rattle.treasury_core.proofs.ReplyLemmas.{file_accepted}
use Rattle.treasury_laws.specs.Sound.{BreaksAssertion}

-- what holds of all elements holds of one
pub all_at : {X : Type 0} (P : X → Type 0) (xs : List X) (x : X) → AllByRecursion P xs → Contains xs x → P x
all_at P [] x h k = absurd (omega (arith, k.1))
all_at P (y ∷ ys) x h k = elim (contains_cons y x ys k) [
  | inl here ↦ subst P here h.0
  | inr later ↦ all_at P ys x h.1 later
]

-- a book in which an assertion does not hold has a failure
not_none : (old new : List Entry) → BreaksAssertion old new → failure (old ++ new) ≡ None → ⊥
not_none old new broken none = broken.fails
    (all_at (Holds (old ++ new)) (asserted_from 1 (old ++ new)) broken.assertion ((failure_none (old ++ new)).0 none)
    broken.stands)

not_accepted : (f : Federation) (name : List ℕ) (file : List Located) (r : Result Answer Refusal)
    → reply f (Enter name file) ≡ r
    → BreaksAssertion (book_of f name) (entries (new_records f name file)) → IsErr r × (after f (Enter name file) r ≡ f)
not_accepted f name file (Ok a) h broken =
    let b = book_of f name ++ entries (new_records f name file) in
    absurd (not_none (book_of f name) (entries (new_records f name file)) broken
    (failure_from b (file_accepted f name file a h).passes))
not_accepted f name file (Err refusal) h broken = (refl, refl)

pub late_entry_refused : (f : Federation) (name : List ℕ) (file : List Located) (r : Result Answer Refusal)
    → BreaksAssertion (book_of f name) (entries (new_records f name file)) → Replies f (Enter name file) r
    → IsErr r × (after f (Enter name file) r ≡ f)
late_entry_refused f name file r broken (inl same) = not_accepted f name file r (sym same) broken
late_entry_refused f name file r broken (inr memory) =
    subst (λ (s : Result Answer Refusal). IsErr s × (after f (Enter name file) s ≡ f)) (sym memory) (refl, refl)

-- where nothing else is wrong, it is the first assertion that fails which is named
first_failure_named : (b : List Entry) (o : Option Failure) → failure b ≡ o → (o ≡ None → ⊥)
    → (first : Failure) × ((o ≡ Some first) × IsFirstFailure b first)
first_failure_named b None h some = absurd (some refl)
first_failure_named b (Some first) h some = (first, (refl, failure_first b first h))

by_check : (f : Federation) (name : List ℕ) (file : List Located) → unbalanced f.styles file ≡ None
    → refused_in f.styles (lock_of f name) (records_of f name) (records_in_file f.styles file) ≡ None
    → enter_refusal f name file ≡ verdict (book_of f name ++ entries (new_records f name file))
by_check f name file balanced taken =
    ap (λ (o : Option Refusal). option_or o
    (option_or (refused_in f.styles (lock_of f name) (records_of f name) (records_in_file f.styles file))
    (verdict (book_of f name ++ entries (new_records f name file))))) balanced
    ∙ ap (λ (o : Option Refusal). option_or o (verdict (book_of f name ++ entries (new_records f name file)))) taken

replied_by : (f : Federation) (name : List ℕ) (file : List Located) (refusal : Refusal) → has_branch f name ≡ true
    → enter_refusal f name file ≡ Some refusal
    → reply f (Enter name file) ≡ Err refusal
unfolding reply
replied_by f name file refusal there h =
    let answer = entered_answer (length (new_records f name file)) (length file) in
    ap (λ (t : Bool). if not t then Err (Plain UnknownBranch) else unless answer (enter_refusal f name file)) there ∙ ap
    (unless answer) h

pub late_entry_named : (f : Federation) (name : List ℕ) (file : List Located) → has_branch f name ≡ true
    → unbalanced f.styles file ≡ None
    → refused_in f.styles (lock_of f name) (records_of f name) (records_in_file f.styles file) ≡ None
    → IsWithin (book_of f name ++ entries (new_records f name file))
    → BreaksAssertion (book_of f name) (entries (new_records f name file))
    → (first : Failure) × ((reply f (Enter name file) ≡ Err (ClaimFailed first))
    × IsFirstFailure (book_of f name ++ entries (new_records f name file)) first)
late_entry_named f name file there balanced taken within broken =
    let b = book_of f name ++ entries (new_records f name file) in
    let some = first_failure_named b (failure b) refl
    (not_none (book_of f name) (entries (new_records f name file)) broken) in
    let why = by_check f name file balanced taken ∙ verdict_claims b within.few (over_none b within.small) ∙ ap
    (option_map ClaimFailed) some.1.0 in
    (some.0, (replied_by f name file (ClaimFailed some.0) there why, some.1.1))
