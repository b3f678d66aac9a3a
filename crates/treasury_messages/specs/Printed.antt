-- Messages as they are printed, a line for each (own rule; docs/RULES.md, "Explanations").
use Rattle.std.specs.Prelude.{◌≡◌, ℕ, List, [], ◌∷◌, ◌++◌, take, codes}
use Rattle.std.specs.List.{flat_map}
use Rattle.treasury_messages.specs.declared.part.Part.{Part}
use Rattle.treasury_messages.specs.Said.{Said, beginning}
use Rattle.treasury_messages.specs.Parts.{part_values, part_text}

-- the line of a message: the beginning of its kind, and then, as a terminal may show them, what the message names, in
-- order, among words
abbrev pub IsMessageLine : Said → List ℕ → Type 0
IsMessageLine m line =
    (parts : List Part) × (m.values ≡ flat_map part_values parts)
    × (line ≡ beginning m.kind ++ flat_map part_text parts ++ codes "\n")

-- the lines of messages, one after another
abbrev pub IsTextOf : List Said → List ℕ → Type 0
IsTextOf [] text = text ≡ []
IsTextOf (m ∷ ms) text =
    (line : List ℕ) × (rest : List ℕ) × IsMessageLine m line × IsTextOf ms rest × (text ≡ line ++ rest)

-- the lines of the first of them, where memory ran out
abbrev pub IsFirstTextOf : List Said → List ℕ → Type 0
IsFirstTextOf ms text = (k : ℕ) × IsTextOf (take k ms) text
