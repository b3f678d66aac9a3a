-- Comments (hledger manual, "Comments"): the first `;` begins the comment, which loses the blanks at both ends.
use Rattle.std.specs.Prelude.{ℕ, ◌==◌, nat_lt, List, length, if◌then◌else◌, Bool, not, Option, Some, None}
use Rattle.std.specs.List.{list_all, position_or_len, before_first, after_first}
use Rattle.journal_lines.specs.Blank.{trim}

-- no such byte stands in the text
abbrev pub has_no : ℕ → List ℕ → Bool
has_no byte text = list_all (λ b. not (b == byte)) text

-- what stands before the first `;`, or all
unfoldable pub front_of : List ℕ → List ℕ
front_of line = before_first (λ b. b == 59) line

-- the text of the comment after the first `;`, if there is one
unfoldable pub comment_of : List ℕ → Option (List ℕ)
comment_of line = if nat_lt (position_or_len (λ b. b == 59) line) (length line)
    then Some (trim (after_first (λ b. b == 59) line)) else None
