-- what each branch has, that of a name has
use Rattle.std.proofs.Common.{ℕ, Bool, true, false, List, [], ◌∷◌}
use Rattle.std.specs.Prelude.{if◌then◌else◌}
use Rattle.std.specs.List.{AllByRecursion}
use Rattle.std.specs.Str.{bytes_eq}
use Rattle.money_core.specs.declared.style.Style.{Style}
use Rattle.treasury_state.specs.declared.record.Record.{Record}
use Rattle.treasury_state.specs.Federation.{Branch, records_in}
use Rattle.treasury_state.specs.Good.{IsGoodBranch}

-- what each branch has, that of the name has
pub of_branch : (P : List Record → Type 0) (styles : List Style) (bs : List Branch) (name : List ℕ) → P []
    → ((b : Branch) → IsGoodBranch styles b → P b.records) → AllByRecursion (IsGoodBranch styles) bs
    → P (records_in bs name)
of_branch P styles [] name p k h = p
of_branch P styles (b ∷ bs) name p k h = by_test (bytes_eq b.name name) (k b h.0) (of_branch P styles bs name p k h.1)
  where
    by_test : (t : Bool) → P b.records → P (records_in bs name) → P (if t then b.records else records_in bs name)
    by_test true q r = q
    by_test false q r = r
