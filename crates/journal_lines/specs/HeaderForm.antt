-- The form of a header line: what stands in it from left to right (hledger manual, "Transactions", "Status", "Code",
-- "Description", "Comments"). What a part may hold, and its limit, are own rules.
use Rattle.std.specs.Prelude.{◌≡◌, ◌≤◌, ℕ, ◌==◌, List, [], ◌∷◌, ◌++◌, length, slice_index, Bool, true, ◌&&◌, not}
use Rattle.std.specs.Prelude.{Option, Some, None}
use Rattle.std.specs.List.{list_all}
use Rattle.journal_lines.specs.declared.header.Status.{Status}
use Rattle.journal_lines.specs.declared.header.Status.TheVariants.{Cleared, Pending}
use Rattle.journal_lines.specs.Blank.{is_blank, is_trimmed}
use Rattle.journal_lines.specs.Comment.{has_no}
use Rattle.journal_lines.specs.Date.{IsDate}
use Rattle.journal_lines.specs.Header.{code_limit, description_limit, comment_limit, HeaderParts, length_of}

-- a status as it is written
abbrev pub status_text : Option Status → List ℕ
status_text None = []
status_text (Some Cleared) = 42 ∷ []
status_text (Some Pending) = 33 ∷ []

-- a code as it is written
abbrev pub code_text : Option (List ℕ) → List ℕ
code_text None = []
code_text (Some code) = 40 ∷ (code ++ 41 ∷ [])

-- a code ends at the first `)`, and before a comment
abbrev pub is_closed : Option (List ℕ) → Bool
is_closed None = true
is_closed (Some code) = has_no 41 code && has_no 59 code

-- the description's first byte is none that would be taken for a status or a code
abbrev pub starts_so : Option Status → Option (List ℕ) → ℕ → Bool
starts_so status (Some code) b = true
starts_so None None b = not (b == 42) && not (b == 33) && not (b == 40)
starts_so (Some status) None b = not (b == 40)

-- the text from the first `;` on writes the comment, blanks around it free
pub record WritesComment (text : List ℕ) (rest : List ℕ) : Type 0 where
  pub before : List ℕ
  pub after : List ℕ
  pub written : rest ≡ 59 ∷ (before ++ (text ++ after))
  pub blanks : list_all is_blank (before ++ after) ≡ true
  pub trimmed : is_trimmed text ≡ true

-- there is no comment, or it is written so
abbrev pub IsRemark : Option (List ℕ) → List ℕ → Type 0
IsRemark None rest = rest ≡ []
IsRemark (Some text) rest = WritesComment text rest

-- the line is a header with these parts: a date, then after blanks a status, a code and a description, each optional,
-- then the comment
pub record ReadsHeader (line : List ℕ) (parts : HeaderParts) : Type 0 where
  pub date : List ℕ
  pub gap : List ℕ
  pub status_gap : List ℕ
  pub code_gap : List ℕ
  pub end_gap : List ℕ
  pub remark : List ℕ
  pub written : line
      ≡ date ++ (gap ++ (status_text parts.status
      ++ (status_gap ++ (code_text parts.code ++ (code_gap ++ (parts.description ++ (end_gap ++ remark)))))))
  pub is_date : IsDate date parts.day
  pub blanks : list_all is_blank (gap ++ (status_gap ++ (code_gap ++ end_gap))) ≡ true
  -- after a date without a blank nothing stands but the comment
  pub apart : gap ≡ [] → (parts.status ≡ None) × (parts.code ≡ None) × (parts.description ≡ [])
  pub closed : is_closed parts.code ≡ true
  pub trimmed : is_trimmed parts.description ≡ true
  pub uncommented : has_no 59 parts.description ≡ true
  pub begins : starts_so parts.status parts.code (slice_index parts.description 0) ≡ true
  pub commented : IsRemark parts.comment remark
  pub short_code : length_of parts.code ≤ code_limit
  pub short_description : length parts.description ≤ description_limit
  pub short_comment : length_of parts.comment ≤ comment_limit
