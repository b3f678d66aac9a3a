-- Mirrors code: what judging fills of a branch, and a state keeps.
use Rattle.std.specs.Prelude.{◌≡◌, ⊤, List, [], ◌∷◌}
use Rattle.book_core.specs.declared.entry.Entry.{Entry}
use Rattle.treasury_state.specs.Federation.{Branch, entries}
use Rattle.treasury_state.specs.Index.{IsIndexOf}
use Rattle.treasury_rows.specs.declared.judging.Judged.{Judged}

-- the ledger has the entries of the branch's records, and the index leads to their marks
pub record IsJudged {L : Type 0} (book : L → List Entry) (b : Branch) (j : Judged L) : Type 0 where
  pub ledger : book j.ledger ≡ entries b.records
  pub index : IsIndexOf j.index b.records

-- one for each branch, in order
abbrev pub AreJudged : {L : Type 0} → (L → List Entry) → List Branch → List (Judged L) → Type 0
AreJudged book [] [] = ⊤
AreJudged book (b ∷ bs) (j ∷ js) = IsJudged book b j × AreJudged book bs js
AreJudged book [] (j ∷ js) = ⊥
AreJudged book (b ∷ bs) [] = ⊥
