-- Notes of one kind: the first of them, and how many more there are (own rule; docs/RULES.md, "Notes").
use Rattle.std.specs.Prelude.{ℕ, ◌-◌, ◌==◌, if◌then◌else◌, List, [], ◌∷◌, ◌++◌, length, take, decimal}
use Rattle.std.specs.List.{flat_map}
use Rattle.treasury_messages.specs.declared.kind.MessageKind.TheVariants as is
use Rattle.treasury_messages.specs.Said.{Said, says}

-- the most that are shown
abbrev pub most_notes : ℕ
most_notes = 5

-- so many more are not shown
abbrev pub more_said : ℕ → List Said
more_said n = if n == 0 then [] else (says is.MoreNotes (decimal n ∷ []) ∷ [])

-- what is said of the first ones, so many at most, and then how many more there are
unfoldable pub listed : {X : Type 0} → ℕ → (X → List Said) → List X → List Said
listed most said xs = flat_map said (take most xs) ++ more_said (length xs - most)
