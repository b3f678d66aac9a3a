-- JSON texts (RFC 8259) of texts, of lists of texts, of lists of such lists, and of objects that have these; nothing
-- stands between them but what JSON asks for, and as little is escaped as it allows (own rule; docs/FORMATS.md,
-- "Replies in JSON").
use Rattle.std.specs.Prelude.{ℕ, ◌+◌, ◌/◌, ◌%◌, ◌==◌, nat_lt, ◌||◌, if◌then◌else◌, List, ◌∷◌, [], ◌++◌, drop, codes}
use Rattle.std.specs.List.{flat_map}

-- the hexadecimal digit of a number below 16, in lower case
abbrev pub hex_digit : ℕ → ℕ
hex_digit n = if nat_lt n 10 then 48 + n else 87 + n

-- what stands for a byte in a string: a backslash and itself for a quote or a backslash, `\u00` and two digits for one
-- below the blank, itself for another
unfoldable pub escaped : ℕ → List ℕ
escaped b =
    if (b == 34) || (b == 92) then 92 ∷ b ∷ []
    else if nat_lt b 32 then codes "\\u00" ++ hex_digit (b / 16) ∷ hex_digit (b % 16) ∷ []
    else b ∷ []

-- the string of a text
abbrev pub quoted : List ℕ → List ℕ
quoted text = codes "\"" ++ flat_map escaped text ++ codes "\""

-- what each of them is written as, with a comma between one and the next
abbrev pub with_commas : {X : Type 0} → (X → List ℕ) → List X → List ℕ
with_commas written xs = drop 1 (flat_map (λ x. codes "," ++ written x) xs)

-- the array of what each of them is written as
abbrev pub array_text : {X : Type 0} → (X → List ℕ) → List X → List ℕ
array_text written xs = codes "[" ++ with_commas written xs ++ codes "]"

-- the array of texts, as strings
abbrev pub strings_text : List (List ℕ) → List ℕ
strings_text texts = array_text quoted texts

-- the array of rows, each an array of strings
abbrev pub rows_text : List (List (List ℕ)) → List ℕ
rows_text rows = array_text strings_text rows

-- what an object has at a key
pub data Held : Type 0 where
  string : List ℕ → Held
  strings : List (List ℕ) → Held
  rows : List (List (List ℕ)) → Held

-- the JSON text of what an object has at a key
abbrev pub held_text : Held → List ℕ
held_text (string text) = quoted text
held_text (strings texts) = strings_text texts
held_text (rows more) = rows_text more

-- a key, and what the object has at it
abbrev pub member_text : List ℕ × Held → List ℕ
member_text m = quoted m.0 ++ codes ":" ++ held_text m.1

-- the object
abbrev pub object_text : List (List ℕ × Held) → List ℕ
object_text members = codes "{" ++ with_commas member_text members ++ codes "}"

-- the line before others that goes on with a byte
abbrev pub onto_first : ℕ → List (List ℕ) → List (List ℕ)
onto_first b [] = (b ∷ []) ∷ []
onto_first b (line ∷ more) = (b ∷ line) ∷ more

-- the lines of a text: what stands before each LF, and what stands after the last one, where that is something
unfoldable pub lines_of : List ℕ → List (List ℕ)
lines_of [] = []
lines_of (b ∷ bs) = if b == 10 then [] ∷ lines_of bs else onto_first b (lines_of bs)
