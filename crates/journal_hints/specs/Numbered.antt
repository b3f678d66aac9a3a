-- Entries and legs by their numbers (own rule; docs/RULES.md, "Explanations").
use Rattle.std.specs.Prelude.{ℕ, zero, suc, List, Option, None, slice_get}

-- the item of a number, counted from 1
abbrev pub item_of_number : {X : Type 0} → List X → ℕ → Option X
item_of_number xs zero = None
item_of_number xs (suc n) = slice_get xs n
