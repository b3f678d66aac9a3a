-- Texts in UTF-8: lines are cut beside ASCII bytes alone, so what is cut out of a line in UTF-8 is UTF-8.
use Rattle.std.specs.Prelude.{◌≡◌, ℕ, List, Bool, true, Option, Some, None}
use Rattle.std.specs.Str.{is_utf8}
use Rattle.journal_lines.specs.Header.{HeaderParts}

-- the text is UTF-8, if there is one
abbrev pub is_utf8_or_none : Option (List ℕ) → Bool
is_utf8_or_none None = true
is_utf8_or_none (Some text) = is_utf8 text

-- the texts of a header are UTF-8
pub record IsUtf8Header (parts : HeaderParts) : Type 0 where
  pub code : is_utf8_or_none parts.code ≡ true
  pub description : is_utf8 parts.description ≡ true
  pub comment : is_utf8_or_none parts.comment ≡ true
