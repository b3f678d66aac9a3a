-- Mirrors code: how the tables of a database are compared with those that `init` makes.
use Rattle.std.specs.Prelude.{ℕ, List, map}
use Rattle.sqlite.specs.Table.{Table}

-- the names of a table's columns
abbrev pub column_names : Table → List (List ℕ)
column_names t = map (λ c. c.name) t.columns

-- a table's name, and those of its columns
abbrev pub heading : Table → List ℕ × List (List ℕ)
heading t = (t.name, column_names t)
