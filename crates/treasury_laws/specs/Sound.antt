-- What is true of the books of a good state, and which new entries break that (own rules; docs/RULES.md, "Books").
use Rattle.std.specs.Prelude.{◌++◌, List, Contains}
use Rattle.std.specs.List.{AllByRecursion}
use Rattle.book_core.specs.declared.entry.Entry.{Entry}
use Rattle.book_core.specs.declared.claim.Asserted.{Asserted}
use Rattle.book_core.specs.Book.{legs_of}
use Rattle.book_core.specs.Claim.{asserted_from, Holds}
use Rattle.book_core.specs.GoodBook.{IsBalanced}
use Rattle.treasury_state.specs.Federation.{Branch, Federation, entries}

-- in each branch every commodity sums to zero
abbrev pub EachBalances : Federation → Type 0
EachBalances f = AllByRecursion (λ (b : Branch). IsBalanced (legs_of (entries b.records))) f.branches

-- in each branch every stored assertion holds at its place, in the book as it is
abbrev pub EachAssertionHolds : Federation → Type 0
EachAssertionHolds f =
    AllByRecursion (λ (b : Branch). AllByRecursion (Holds (entries b.records)) (asserted_from 1 (entries b.records)))
    f.branches

-- an assertion of the old entries or of the new ones does not hold in the book with the new entries
pub record BreaksAssertion (old new : List Entry) : Type 0 where
  pub assertion : Asserted
  pub stands : Contains (asserted_from 1 (old ++ new)) assertion
  pub fails : Holds (old ++ new) assertion → ⊥
