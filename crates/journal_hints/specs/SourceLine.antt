-- A line of a text as an explanation shows it (own rule; docs/RULES.md, "Explanations").
use Rattle.std.specs.Prelude.{ℕ, List, [], ◌∷◌, decimal, Option, Some, None}
use Rattle.journal_lines.specs.Lines.{lines}
use Rattle.treasury_messages.specs.declared.kind.MessageKind.TheVariants as is
use Rattle.treasury_messages.specs.Said.{Said, says}
use Rattle.journal_hints.specs.Numbered.{item_of_number}

-- a line with its number before it, if there is one
abbrev pub line_said : ℕ → Option (List ℕ) → List Said
line_said n None = []
line_said n (Some line) = says is.SourceLine (decimal n ∷ line ∷ []) ∷ []

-- the line of that number of a text, if it has one
unfoldable pub source_said : List ℕ → ℕ → List Said
source_said text n = line_said n (item_of_number (lines text) n)
