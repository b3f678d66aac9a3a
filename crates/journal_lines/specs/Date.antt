-- Dates of a journal (hledger manual, "Simple dates"), and which days they name. That the year has four digits,
-- month and day one digit or two, and that both separators are the same, are own rules. The calendar is the kit's.
use Rattle.std.specs.Prelude.{ℕ, ℤ, zero, suc, pos, negsuc, ◌+◌, ◌/◌, ◌%◌, ◌==◌, ◌≡◌, ◌≤◌, ◌-ℤ◌, ◌≤ℤ◌, int_le}
use Rattle.std.specs.Prelude.{◌&&◌, ◌||◌, Bool, true, if◌then◌else◌, List, [], ◌∷◌, ◌++◌, length, slice_index}
use Rattle.std.specs.Prelude.{unsigned_abs}
use Rattle.std.specs.Char.{is_ascii_digit}
use Rattle.std.specs.List.{list_all}
use Rattle.std.specs.Str.Parse.{digits_value}
use Rattle.jiff_core.specs.Calendar.{IsCivilDate, days_from_civil}
use Rattle.money_core.specs.declared.day.Day.{Day}

-- the calendar has the day, in a year from 1 to 9999
abbrev pub IsDay : ℕ → ℕ → ℕ → Type 0
IsDay year month day = (1 ≤ year) × IsCivilDate (pos year) month day

-- a byte between the parts of a date: `-`, `/` or `.`
abbrev pub is_separator : ℕ → Bool
is_separator b = (b == 45) || (b == 47) || (b == 46)

-- a month or a day: one digit or two
abbrev pub is_month_or_day : List ℕ → Bool
is_month_or_day part = ((length part == 1) || (length part == 2)) && list_all is_ascii_digit part

-- the number that digits write
abbrev pub number_of : List ℕ → ℕ
number_of part = digits_value 10 part

-- the text is a date of that day: four digits, a separator, a month, the same separator, a day of the month, and the
-- calendar has it
pub record IsDate (text : List ℕ) (day : Day) : Type 0 where
  pub year : List ℕ
  pub separator : ℕ
  pub month : List ℕ
  pub place : List ℕ
  pub written : text ≡ year ++ (separator ∷ (month ++ (separator ∷ place)))
  pub separated : is_separator separator ≡ true
  pub four : length year ≡ 4
  pub year_digits : list_all is_ascii_digit year ≡ true
  pub month_digits : is_month_or_day month ≡ true
  pub place_digits : is_month_or_day place ≡ true
  pub exists : IsDay (number_of year) (number_of month) (number_of place)
  pub named : day ≡ record { 0 = days_from_civil (pos (number_of year)) (number_of month) (number_of place) }

-- a day of the years 1 to 9999
pub record IsDayNumber (day : Day) : Type 0 where
  pub low : days_from_civil (pos 1) 1 1 ≤ℤ day.0
  pub high : day.0 ≤ℤ days_from_civil (pos 9999) 12 31

-- which of the first n years, or months of a year, lasts on a day, given the days on which they begin: the last that
-- has begun
unfoldable pub last_begun : (ℕ → ℤ) → ℤ → ℕ → ℕ
last_begun first_day day zero = 0
last_begun first_day day (suc n) = if int_le (first_day (suc n)) day then suc n else last_begun first_day day n

-- the year of a day of the years 1 to 9999
abbrev pub year_of : Day → ℕ
year_of day = last_begun (λ year. days_from_civil (pos year) 1 1) day.0 9999

-- its month
abbrev pub month_of : Day → ℕ
month_of day = last_begun (λ month. days_from_civil (pos (year_of day)) month 1) day.0 12

-- its place in the month, from 1
abbrev pub day_of_month : Day → ℕ
day_of_month day = unsigned_abs (day.0 -ℤ days_from_civil (pos (year_of day)) (month_of day) 1) + 1

-- a number in two digits
abbrev pub two_digits : ℕ → List ℕ
two_digits n = (48 + n / 10 % 10) ∷ (48 + n % 10) ∷ []

-- a number in four digits
abbrev pub four_digits : ℕ → List ℕ
four_digits n = (48 + n / 1000 % 10) ∷ (48 + n / 100 % 10) ∷ two_digits n

-- a text writes the day: it is one from 0001-01-01 to 9999-12-31
abbrev pub is_in_calendar : Day → Bool
is_in_calendar day = int_le (negsuc 719161) day.0 && int_le day.0 (pos 2932896)

-- the date of a day as it is printed: `YYYY-MM-DD`
unfoldable pub printed_date : Day → List ℕ
printed_date day =
    four_digits (year_of day) ++ (45 ∷ (two_digits (month_of day) ++ (45 ∷ two_digits (day_of_month day))))

-- the text is the date of that day wherever it stands: it reads as the day, and is ten digits and `-`, a digit first
pub record IsDateText (day : Day) (text : List ℕ) : Type 0 where
  pub reads : IsDate text day
  pub form : list_all (λ b. is_ascii_digit b || (b == 45)) text ≡ true
  pub first : is_ascii_digit (slice_index text 0) ≡ true
  pub ten : length text ≡ 10
