-- The accounts of a book as one list (hledger manual, "Account names"; the order is an own rule).
use Rattle.std.specs.Prelude.{ℕ, List, [], ◌∷◌}
use Rattle.std.specs.declared.cmp.Ordering.{Ordering}
use Rattle.std.specs.declared.cmp.Ordering.TheVariants.{Less, Equal, Greater}
use Rattle.book_core.specs.declared.entry.Entry.{Entry}
use Rattle.book_core.specs.Account.{name_cmp}
use Rattle.book_core.specs.Book.{legs_of, accounts_of}

-- the list with the name before the first one that is greater, if it is not there yet
abbrev pub placed_name : Ordering → List ℕ → List ℕ → List (List ℕ) → List (List ℕ) → List (List ℕ)
placed_name Less name first rest more = name ∷ (first ∷ rest)
placed_name Equal name first rest more = first ∷ rest
placed_name Greater name first rest more = first ∷ more

-- a list in byte order with one name more, if it is not there yet
abbrev pub with_name : List ℕ → List (List ℕ) → List (List ℕ)
with_name name [] = name ∷ []
with_name name (first ∷ rest) = placed_name (name_cmp name first) name first rest (with_name name rest)

-- the names, each once, in byte order
abbrev pub ordered_names : List (List ℕ) → List (List ℕ)
ordered_names [] = []
ordered_names (name ∷ names) = with_name name (ordered_names names)

-- the accounts of all legs of a book, each once, in byte order
unfoldable pub book_accounts : List Entry → List (List ℕ)
book_accounts entries = ordered_names (accounts_of (legs_of entries))
