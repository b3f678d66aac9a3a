-- Columns of a report: texts aligned by characters (own rule; docs/FORMATS.md, "Balance report", "Register report",
-- "Transit report", "Branches report", "Transfers report").
use Rattle.std.specs.Prelude.{ℕ, ◌-◌, Bool, ◌&&◌, not, nat_le, nat_lt, List, ◌++◌, count_by, replicate}

-- a byte that goes on with a character, in UTF-8: one of 128 to 191
abbrev pub is_continuation : ℕ → Bool
is_continuation b = nat_le 128 b && nat_lt b 192

-- how many characters a text has: one for each byte that begins one
abbrev pub char_count : List ℕ → ℕ
char_count text = count_by (λ b. not (is_continuation b)) text

-- the text right-aligned in so many characters; a longer one as it stands
abbrev pub right_aligned : ℕ → List ℕ → List ℕ
right_aligned width text = replicate (width - char_count text) 32 ++ text

-- the text left-aligned in so many characters
abbrev pub left_aligned : ℕ → List ℕ → List ℕ
left_aligned width text = text ++ replicate (width - char_count text) 32

-- how wide the number of an entry, or of entries, stands in a report
abbrev pub number_width : ℕ
number_width = 6

-- how wide an amount stands in a report
abbrev pub amount_width : ℕ
amount_width = 20

-- how wide the day of a lock stands in a report
abbrev pub lock_width : ℕ
lock_width = 10
