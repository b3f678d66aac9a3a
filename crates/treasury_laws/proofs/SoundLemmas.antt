-- the books of a good state sum to zero, and their assertions hold
use Rattle.std.proofs.Common.{◌≡◌, List, [], ◌∷◌, pos, arith, refl}
use Rattle.std.specs.List.{AllByRecursion}
use Rattle.std.proofs.lemmas.Int.{ints}
use Rattle.money_core.specs.declared.style.Style.{Style}
use Rattle.money_core.specs.declared.unit.Unit.{Unit as Commodity}
use Rattle.book_core.specs.declared.entry.Entry.{Entry}
use Rattle.book_core.specs.Book.{legs_of}
use Rattle.book_core.specs.Balance.{value}
use Rattle.book_core.specs.Claim.{asserted_from, Holds}
use Rattle.book_core.specs.GoodBook.{IsFit, IsBalanced}
use Rattle.journal_balance.proofs.ValueLemmas.{value-append}
use Rattle.treasury_state.specs.Federation.{Branch, Federation, entries}
use Rattle.treasury_state.specs.Good.{IsGoodBranch, IsGoodState}
use Rattle.treasury_laws.specs.Sound.{EachBalances, EachAssertionHolds}

value-fit : (unit : Commodity) (b : List Entry) → AllByRecursion IsFit b → value unit (legs_of b) ≡ pos 0
value-fit unit [] h = refl
value-fit unit (e ∷ es) h =
    omega (arith, ints, value-append unit e.legs (legs_of es), h.0.balanced unit, value-fit unit es h.1)

each_balances : (styles : List Style) (bs : List Branch) → AllByRecursion (IsGoodBranch styles) bs
    → AllByRecursion (λ (b : Branch). IsBalanced (legs_of (entries b.records))) bs
each_balances styles [] h = tt
each_balances styles (b ∷ bs) h =
    ((λ unit. value-fit unit (entries b.records) h.0.book.fit), each_balances styles bs h.1)

pub good_balances : (f : Federation) → IsGoodState f → EachBalances f
good_balances f good = each_balances f.styles f.branches good.branches

each_holds : (styles : List Style) (bs : List Branch) → AllByRecursion (IsGoodBranch styles) bs
    → AllByRecursion (λ (b : Branch). AllByRecursion (Holds (entries b.records)) (asserted_from 1 (entries b.records)))
    bs
each_holds styles [] h = tt
each_holds styles (b ∷ bs) h = (h.0.book.hold, each_holds styles bs h.1)

pub good_holds : (f : Federation) → IsGoodState f → EachAssertionHolds f
good_holds f good = each_holds f.styles f.branches good.branches
