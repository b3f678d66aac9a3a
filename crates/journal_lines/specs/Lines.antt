-- The lines of a journal's text (own rule: how a line ends, and that each has its number).
use Rattle.std.specs.Prelude.{ℕ, ◌≡◌, ◌<◌, ◌++◌, ◌⊎◌, ◌-◌, ◌==◌, Bool, true, false, List, [], ◌∷◌, length, slice_index}
use Rattle.std.specs.Prelude.{take, if◌then◌else◌}
use Rattle.std.specs.List.{slice_split, enumerate_from}
use Rattle.journal_lines.specs.Comment.{has_no}

-- CR is the last byte
abbrev pub ends_in_return : List ℕ → Bool
ends_in_return line = slice_index line (length line - 1) == 13

-- what ends this line: CR and a line feed, or a line feed alone, where CR is not the line's last byte
abbrev pub IsEnd : List ℕ → List ℕ → Type 0
IsEnd line end = (end ≡ 13 ∷ 10 ∷ []) ⊎ ((end ≡ 10 ∷ []) × (ends_in_return line ≡ false))

-- what follows this line, the last: CR, or nothing, where the line is not empty and CR is not its last byte
abbrev pub IsLastEnd : List ℕ → List ℕ → Type 0
IsLastEnd line end = (end ≡ 13 ∷ []) ⊎ ((end ≡ []) × ((0 < length line) × (ends_in_return line ≡ false)))

-- a text begins with a line and its end
pub record BeginsWith (line text : List ℕ) : Type 0 where
  pub end : List ℕ
  pub rest : List ℕ
  pub written : text ≡ line ++ (end ++ rest)
  pub one : has_no 10 line ≡ true

-- the text is these lines in order, each with its end, and nothing else
abbrev pub MakeUp : List (List ℕ) → List ℕ → Type 0
MakeUp [] text = text ≡ []
MakeUp (line ∷ more) text =
    (front : BeginsWith line text) × ((IsEnd line front.end × MakeUp more front.rest)
    ⊎ (IsLastEnd line front.end × ((front.rest ≡ []) × (more ≡ []))))

-- The same by a function.

-- a line without the one CR that belongs to its end
abbrev pub without_return : List ℕ → List ℕ
without_return line = if ends_in_return line then take (length line - 1) line else line

-- the parts between line feeds are lines, but for an empty one at the end
abbrev pub lines_of_parts : List (List ℕ) → List (List ℕ)
lines_of_parts [] = []
lines_of_parts (x ∷ []) = if length x == 0 then [] else without_return x ∷ []
lines_of_parts (x ∷ y ∷ more) = without_return x ∷ lines_of_parts (y ∷ more)

-- the lines of a text, without their ends
abbrev pub lines : List ℕ → List (List ℕ)
lines text = lines_of_parts (slice_split (λ b. b == 10) text)

-- the lines with their numbers, the first of which is given
abbrev pub numbered : ℕ → List ℕ → List (ℕ × List ℕ)
numbered first text = enumerate_from first (lines text)
