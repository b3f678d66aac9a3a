-- The parts of a header line (hledger manual, "Transactions", "Status", "Code", "Description"). What each part may
-- hold, and its limit, are own rules.
use Rattle.std.specs.Prelude.{ℕ, ◌==◌, List, length, drop, slice_index, ◌||◌, if◌then◌else◌, Option, Some, None}
use Rattle.money_core.specs.declared.day.Day.{Day}
use Rattle.journal_lines.specs.declared.header.Status.{Status}
use Rattle.journal_lines.specs.declared.header.Status.TheVariants.{Cleared, Pending}
use Rattle.journal_lines.specs.Blank.{trim_start}

-- the most bytes of a code
abbrev pub code_limit : ℕ
code_limit = 100

-- of a description
abbrev pub description_limit : ℕ
description_limit = 500

-- of a comment
abbrev pub comment_limit : ℕ
comment_limit = 900

-- the parts of a header that was read
pub record HeaderParts : Type 0 where
  pub day : Day
  pub status : Option Status
  pub code : Option (List ℕ)
  pub description : List ℕ
  pub comment : Option (List ℕ)

-- how many bytes a part has, if it is there
abbrev pub length_of : Option (List ℕ) → ℕ
length_of None = 0
length_of (Some text) = length text

-- the status at the front: `*` or `!`
unfoldable pub status_at : List ℕ → Option Status
status_at text =
    if slice_index text 0 == 42 then Some Cleared else (if slice_index text 0 == 33 then Some Pending else None)

-- what follows it, without blanks between
unfoldable pub behind_status : List ℕ → List ℕ
behind_status text = if (slice_index text 0 == 42) || (slice_index text 0 == 33) then trim_start (drop 1 text) else text
