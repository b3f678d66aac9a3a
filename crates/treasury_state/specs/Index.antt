-- How the records of a branch are kept: with a ledger of their entries, and an index of their marks (own rules).
use Rattle.std.specs.Prelude.{ℕ, ◌≡◌, List, Option}
use Rattle.std.specs.List.{position_from}
use Rattle.std.specs.HashMap.{HashMap, get_by_text}
use Rattle.std.specs.declared.string.String.{String}
use Rattle.std.specs.declared.alloc.Global.{Global}
use Rattle.std.specs.declared.hash.FoldHasher.{FoldHasher}
use Rattle.std.specs.declared.hash.BuildHasherDefault.{BuildHasherDefault}
use Rattle.book_core.specs.declared.entry.Entry.{Entry}
use Rattle.treasury_state.specs.declared.record.Record.{Record}
use Rattle.treasury_state.specs.declared.state.Branch.{Branch as Kept}
use Rattle.treasury_state.specs.Federation.{entries}
use Rattle.treasury_state.specs.Mark.{has_mark}

-- the place of the first record with a mark
abbrev pub mark_place : List Record → List ℕ → Option ℕ
mark_place rs m = position_from (has_mark m) 0 rs

-- the map leads from each mark to its record's place
abbrev pub IsIndexOf : HashMap (String Global) ℕ (BuildHasherDefault FoldHasher) → List Record → Type 0
IsIndexOf index rs = (m : List ℕ) → get_by_text index m ≡ mark_place rs m

-- the ledger has the entries of the records, and the index leads to their marks
pub record IsKept {L : Type 0} (book : L → List Entry) (b : Kept L) : Type 0 where
  pub ledger : book b.ledger ≡ entries b.records
  pub index : IsIndexOf b.index b.records
