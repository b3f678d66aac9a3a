-- What a file is to a word, by a look at it and at its log before it is opened (own rules; docs/RULES.md, "The
-- program").
use Rattle.std.specs.Prelude.{◌++◌, ◌∷◌, ◌≤◌, ℕ, List, [], Option, IfSome, codes}

-- how a database file begins
abbrev pub magic : List ℕ
magic = codes "SQLite format 3" ++ 0 ∷ []

-- A log has room for a page from 56 bytes on: SQLite passes over a shorter one. One whose length cannot be told may
-- have pages.
abbrev pub MayHavePages : Option ℕ → Type 0
MayHavePages log = IfSome log (λ bytes. 56 ≤ bytes)
