-- The parts of a message: words, and what it names (own rule; docs/RULES.md, "Explanations").
use Rattle.std.specs.Prelude.{ℕ, List, [], ◌∷◌}
use Rattle.terminal_text.specs.Shown.{shown_text}
use Rattle.treasury_messages.specs.declared.part.Part.{Part}
use Rattle.treasury_messages.specs.declared.part.Part.TheVariants as part

-- what a part names
abbrev pub part_values : Part → List (List ℕ)
part_values (part.Words words) = []
part_values (part.Value text) = text.items ∷ []

-- a part as it is shown
abbrev pub part_text : Part → List ℕ
part_text (part.Words words) = shown_text words.now
part_text (part.Value text) = shown_text text.items
