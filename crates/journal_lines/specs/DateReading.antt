-- The day of a date by a function, for laws: where its parts stand. The rule is the relation `IsDate` of `Date`;
-- `read_date` promises both.
use Rattle.std.specs.Prelude.{ℕ, pos, ◌==◌, ◌≡◌, ◌<◌, nat_le, nat_lt, ◌&&◌, Bool, true, if◌then◌else◌, List, length}
use Rattle.std.specs.Prelude.{slice_index, take, drop, Option, Some, None}
use Rattle.std.specs.Char.{is_ascii_digit}
use Rattle.std.specs.List.{list_all, before_first, after_first}
use Rattle.jiff_core.specs.Calendar.{days_in_month, days_from_civil}
use Rattle.money_core.specs.declared.day.Day.{Day}
use Rattle.journal_lines.specs.Date.{IsDay, is_separator, is_month_or_day, number_of}

-- the four bytes of the year
abbrev pub year_part : List ℕ → List ℕ
year_part text = take 4 text

-- the byte that follows the year
abbrev pub separator : List ℕ → ℕ
separator text = slice_index text 4

-- what follows the year and its separator
abbrev pub behind_year : List ℕ → List ℕ
behind_year text = drop 5 text

-- from there up to the same separator again
abbrev pub month_part : List ℕ → List ℕ
month_part text = before_first (λ b. b == separator text) (behind_year text)

-- what follows it
abbrev pub day_part : List ℕ → List ℕ
day_part text = after_first (λ b. b == separator text) (behind_year text)

-- the text is a date, by the places of its parts
pub record HasDateParts (text : List ℕ) : Type 0 where
  pub long : 4 < length text
  pub year : list_all is_ascii_digit (year_part text) ≡ true
  pub separated : is_separator (separator text) ≡ true
  pub month : is_month_or_day (month_part text) ≡ true
  pub day : is_month_or_day (day_part text) ≡ true
  pub exists : IsDay (number_of (year_part text)) (number_of (month_part text)) (number_of (day_part text))

-- the day that a date names
abbrev pub day_of : List ℕ → Day
day_of text = record {
  0 = days_from_civil (pos (number_of (year_part text))) (number_of (month_part text))
      (number_of (day_part text));
}

-- the calendar has the day, in a year from 1 to 9999
abbrev pub is_day : ℕ → ℕ → ℕ → Bool
is_day y m d =
    nat_le 1 y && nat_le y 9999 && nat_le 1 m && nat_le m 12 && nat_le 1 d && nat_le d (days_in_month (pos y) m)

-- whether the text is a date
abbrev pub is_date : List ℕ → Bool
is_date text =
    nat_lt 4 (length text) && list_all is_ascii_digit (year_part text) && is_separator (separator text)
    && is_month_or_day (month_part text) && is_month_or_day (day_part text)
    && is_day (number_of (year_part text)) (number_of (month_part text)) (number_of (day_part text))

-- the day that a text names, if it is a date
unfoldable pub date_of : List ℕ → Option Day
date_of text = if is_date text then Some (day_of text) else None
