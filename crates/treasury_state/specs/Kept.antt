-- Mirrors code: how a state is kept, with an index of its branches' names, each branch with its ledger and an index of
-- its marks.
use Rattle.std.specs.Prelude.{ℕ, ◌≡◌, List, Option}
use Rattle.std.specs.List.{AllByRecursion, position_from}
use Rattle.std.specs.HashMap.{HashMap, get_by_text}
use Rattle.std.specs.declared.string.String.{String}
use Rattle.std.specs.declared.alloc.Global.{Global}
use Rattle.std.specs.declared.hash.FoldHasher.{FoldHasher}
use Rattle.std.specs.declared.hash.BuildHasherDefault.{BuildHasherDefault}
use Rattle.money_core.specs.declared.style.Style.{Style}
use Rattle.book_core.specs.declared.entry.Entry.{Entry}
use Rattle.treasury_state.specs.declared.transfer.Transfer.{Transfer}
use Rattle.treasury_state.specs.declared.state.Branch.{Branch as Kept}
use Rattle.treasury_state.specs.Federation.{Branch, has_name}
use Rattle.treasury_state.specs.Seen.{federation_of}
use Rattle.treasury_state.specs.Good.{IsGoodState}
use Rattle.treasury_state.specs.Index.{IsKept}

-- the place of the first branch of a name
abbrev pub branch_place : List Branch → List ℕ → Option ℕ
branch_place bs name = position_from (has_name name) 0 bs

-- the map leads from each name to its branch's place
abbrev pub ArePlacesOf : HashMap (String Global) ℕ (BuildHasherDefault FoldHasher) → List Branch → Type 0
ArePlacesOf places bs = (name : List ℕ) → get_by_text places name ≡ branch_place bs name

-- each branch is kept, and the state is good
pub record AreKept {L : Type 0} (book : L → List Entry) (styles : List Style) (bs : List (Kept L))
    (ts : List Transfer) : Type 0 where
  pub kept : AllByRecursion (IsKept book) bs
  pub good : IsGoodState (federation_of styles bs ts)
