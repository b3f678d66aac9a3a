-- Blanks (hledger manual, "Amounts"; that they are the space and the tab alone is an own rule).
use Rattle.std.specs.Prelude.{◌≡◌, ℕ, ◌==◌, List, Bool, true, ◌||◌}
use Rattle.std.specs.List.{list_all}

-- a space or a tab
abbrev pub is_blank : ℕ → Bool
is_blank b = (b == 32) || (b == 9)

-- these are blanks, or nothing
abbrev pub IsBlanks : List ℕ → Type 0
IsBlanks bytes = list_all is_blank bytes ≡ true
