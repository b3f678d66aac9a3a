-- Counts as texts (own rule; docs/FORMATS.md, "Requests").
use Rattle.std.specs.Prelude.{ℕ, ◌&&◌, Bool, List, length, Option, Some, None, if◌then◌else◌, nat_lt, nat_le}
use Rattle.std.specs.Char.{is_ascii_digit}
use Rattle.std.specs.List.{list_all}
use Rattle.journal_lines.specs.Date.{number_of}

-- 1 to 5 decimal digits
abbrev pub is_entry_count : List ℕ → Bool
is_entry_count text = nat_lt 0 (length text) && (nat_le (length text) 5 && list_all is_ascii_digit text)

-- the number that they write
unfoldable pub entry_count : List ℕ → Option ℕ
entry_count text = if is_entry_count text then Some (number_of text) else None
