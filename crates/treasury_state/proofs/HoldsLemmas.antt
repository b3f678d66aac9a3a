-- a branch that was found by its name; a book without new records
use Rattle.std.proofs.Common.{◌≡◌, ◌-◌, ℕ, Bool, true, false, List, [], ◌∷◌, ◌++◌, length, ap, ◌∙◌, subst, arith}
use Rattle.std.proofs.Common.{append-nil, Some, None}
use Rattle.std.specs.Prelude.{◌==◌, find, cond}
use Rattle.std.specs.List.{AllByRecursion}
use Rattle.std.specs.Str.{bytes_eq}
use Rattle.std.proofs.lemmas.Bool.Decides.{nat_tests}
use Rattle.book_core.specs.declared.entry.Entry.{Entry}
use Rattle.book_core.specs.GoodBook.{IsGoodBook, verdict}
use Rattle.book_core.proofs.GoodBookLemmas.{verdict_good}
use Rattle.treasury_state.specs.declared.record.Record.{Record}
use Rattle.treasury_state.specs.Federation.{Branch, has_name, entries, branch_at}

-- no new records: the book is as good as it was
pub same_book : (book : List Entry) (new : List Record) → (length new == 0) ≡ true → IsGoodBook book
    → verdict (book ++ entries new) ≡ None
same_book book [] e good = ap verdict (append-nil book) ∙ verdict_good book good
same_book book (r ∷ rs) e good = absurd (let k : length (r ∷ rs) ≡ 0 = grind (arith, nat_tests) in omega (arith, k))

-- what holds of all branches holds of one that was found
pub found_holds : (P : Branch → Type 0) (bs : List Branch) (name : List ℕ) (b : Branch) → branch_at bs name ≡ Some b
    → AllByRecursion P bs → P b
found_holds P [] name b e h = absurd cc
found_holds P (x ∷ xs) name b e h = by_test (bytes_eq x.name name) e (λ k. found_holds P xs name b k h.1)
  where
    by_test : (t : Bool) → cond t (Some x) (find (has_name name) xs) ≡ Some b → (find (has_name name) xs ≡ Some b → P b)
        → P b
    by_test true k later = subst P (let same : x ≡ b = cc in same) h.0
    by_test false k later = later k
