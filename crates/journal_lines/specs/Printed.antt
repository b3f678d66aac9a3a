-- The lines of an entry that this crate can read, as they are printed (own rule: one canonical form), and which parts
-- print so that they read back.
use Rattle.std.specs.Prelude.{◌≡◌, ◌≤◌, ℕ, ◌==◌, nat_le, List, [], ◌∷◌, ◌++◌, length, slice_index, Bool, true, ◌&&◌}
use Rattle.std.specs.Prelude.{◌||◌, not, Option, Some, None}
use Rattle.std.specs.List.{list_all, flat_map}
use Rattle.std.specs.Str.{is_utf8}
use Rattle.journal_lines.specs.Utf8.{is_utf8_or_none}
use Rattle.money_core.specs.declared.day.Day.{Day}
use Rattle.journal_lines.specs.declared.header.Status.{Status}
use Rattle.journal_lines.specs.declared.line_kind.LineKind.TheVariants.{Header, Indented}
use Rattle.journal_lines.specs.LineKind.{kind_of, is_remark}
use Rattle.journal_lines.specs.declared.header.Status.TheVariants.{Cleared, Pending}
use Rattle.journal_lines.specs.Blank.{is_trimmed}
use Rattle.journal_lines.specs.Comment.{has_no, comment_of}
use Rattle.journal_lines.specs.Header.{code_limit, description_limit, comment_limit, HeaderParts}
use Rattle.journal_lines.specs.HeaderForm.{starts_so, ReadsHeader}
use Rattle.journal_lines.specs.Date.{printed_date, IsDayNumber}

-- a byte that a line may hold: no ASCII control character but the tab
abbrev pub is_clean : ℕ → Bool
is_clean b = (nat_le 32 b && not (b == 127)) || (b == 9)

-- the most bytes of a line
abbrev pub line_limit : ℕ
line_limit = 1000

-- lines, each ended by a line feed
abbrev pub ended : List (List ℕ) → List ℕ
ended ls = flat_map (λ line. line ++ 10 ∷ []) ls

-- the four spaces before a line below a header
abbrev pub indent : List ℕ
indent = 32 ∷ 32 ∷ 32 ∷ 32 ∷ []

-- a header's status after a space
abbrev pub header_status : Option Status → List ℕ
header_status None = []
header_status (Some Pending) = 32 ∷ 33 ∷ []
header_status (Some Cleared) = 32 ∷ 42 ∷ []

-- its code in parentheses after a space
abbrev pub header_code : Option (List ℕ) → List ℕ
header_code None = []
header_code (Some code) = 32 ∷ 40 ∷ (code ++ 41 ∷ [])

-- a text after a space, if there is some
abbrev pub spaced_text : List ℕ → List ℕ
spaced_text [] = []
spaced_text (b ∷ bs) = 32 ∷ b ∷ bs

-- the header line of a transaction: the date, then a status, a code and a description, each after a space where it is
-- there
unfoldable pub header_line : Day → Option Status → Option (List ℕ) → List ℕ → List ℕ
header_line day status code description =
    printed_date day ++ (header_status status ++ (header_code code ++ spaced_text description))

-- the line of a comment below a header
unfoldable pub comment_line : List ℕ → List ℕ
comment_line text = indent ++ (59 ∷ spaced_text text)

-- a comment that reads back: no blank at an end, no control character but the tab, within the limit of bytes
abbrev pub is_comment : List ℕ → Bool
is_comment text = is_trimmed text && list_all is_clean text && nat_le (length text) comment_limit

-- a code that reads back: no `)`, no `;`, no control character but the tab, within the limit of bytes
abbrev pub is_code : Option (List ℕ) → Bool
is_code None = true
is_code (Some code) = has_no 41 code && has_no 59 code && list_all is_clean code && nat_le (length code) code_limit

-- a description that reads back after that status and that code
abbrev pub is_description : Option Status → Option (List ℕ) → List ℕ → Bool
is_description status code text =
    is_trimmed text && has_no 59 text && list_all is_clean text && nat_le (length text) description_limit
    && starts_so status code (slice_index text 0)

-- the parts of a header that reads back
pub record HeaderOk (day : Day) (status : Option Status) (code : Option (List ℕ)) (description : List ℕ) : Type 0 where
  pub number : IsDayNumber day
  pub code_ok : is_code code ≡ true
  pub description_ok : is_description status code description ≡ true

-- the line is the header of these parts wherever it stands: it is a header line and reads as them, and no limit of
-- lines is broken
pub record IsHeaderText (day : Day) (status : Option Status) (code : Option (List ℕ))
    (description line : List ℕ) : Type 0 where
  pub kind : kind_of line ≡ Header
  pub reads : ReadsHeader line (record {
    day = day;
    status = status;
    code = code;
    description = description;
    comment = None;
  })
  pub clean : list_all is_clean line ≡ true
  pub short : length line ≤ line_limit

-- the header line of good parts is such a line
abbrev pub HeaderReadsBack : Day → Option Status → Option (List ℕ) → List ℕ → Type 0
HeaderReadsBack day status code description =
    HeaderOk day status code description
    → IsHeaderText day status code description (header_line day status code description)

-- the header line of parts in UTF-8 is UTF-8
abbrev pub HeaderIsUtf8 : Day → Option Status → Option (List ℕ) → List ℕ → Type 0
HeaderIsUtf8 day status code description =
    is_utf8_or_none code ≡ true → is_utf8 description ≡ true → is_utf8 (header_line day status code description) ≡ true

-- the line is the comment line of this text wherever it stands
pub record IsCommentText (text line : List ℕ) : Type 0 where
  pub kind : kind_of line ≡ Indented
  pub remark : is_remark line ≡ true
  pub reads : comment_of line ≡ Some text
  pub clean : list_all is_clean line ≡ true
  pub short : length line ≤ line_limit

-- the parts of a header print so that they read back
pub record PrintsBack (header : HeaderParts) : Type 0 where
  pub parts : HeaderOk header.day header.status header.code header.description
  pub comment : (text : List ℕ) → header.comment ≡ Some text → is_comment text ≡ true
