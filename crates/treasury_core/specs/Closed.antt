-- What a closing is added to, and what is said of it then (own rules; docs/RULES.md, "Closing").
use Rattle.std.specs.Prelude.{◌≡◌, ℕ, Bool, false, List, [], ◌∷◌, ◌++◌, Some}
use Rattle.money_core.specs.declared.day.Day.{Day}
use Rattle.book_core.specs.declared.entry.Entry.{Entry}
use Rattle.journal_format.specs.declared.txn.Txn.{Txn}
use Rattle.journal_balance.specs.Plain.{written_entry}
use Rattle.treasury_state.specs.Federation.{Federation, book_of}
use Rattle.treasury_state.specs.Good.{IsGoodState}
use Rattle.treasury_core.specs.Closing.{closing}

-- the transaction is the closing of a branch of a good state at a day, of the accounts that are selected, into one that
-- is not, whatever its comments
pub record IsClosing (select : List ℕ → Bool) (into : List ℕ) (f : Federation) (name : List ℕ) (day : Day)
    (t : Txn) : Type 0 where
  pub good : IsGoodState f
  pub apart : select into ≡ false
  pub comments : List (List ℕ)
  pub closes : closing select into comments f.styles (book_of f name) day ≡ Some t

-- the branch's book with that transaction as its last entry, its postings as they are written
abbrev pub closed_book : Federation → List ℕ → Txn → List Entry
closed_book f name t = book_of f name ++ written_entry t ∷ []
