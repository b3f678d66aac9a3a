-- What every line of a journal has to be (own rule).
use Rattle.std.specs.Prelude.{ℕ, nat_le, List, length, Bool, ◌&&◌}
use Rattle.std.specs.List.{list_all}
use Rattle.std.specs.Str.{is_utf8}
use Rattle.journal_lines.specs.Printed.{is_clean, line_limit}

-- UTF-8 without ASCII control characters other than the tab
abbrev pub is_text : List ℕ → Bool
is_text line = is_utf8 line && list_all is_clean line

-- a line within the limits of all lines: at most 1,000 bytes, UTF-8, no ASCII control character other than the tab
abbrev pub is_line : List ℕ → Bool
is_line line = nat_le (length line) line_limit && is_text line
