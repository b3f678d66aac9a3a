use Rattle.std.proofs.Common.{arith, ◌≡◌, ℕ, pos, List, sym, true, length, Option, Some, None, ◌<◌}
use Rattle.std.specs.Option.{SomeIff}
use Rattle.std.specs.Char.{is_ascii_digit}
use Rattle.std.specs.List.{list_all}
use Rattle.jiff_core.specs.Calendar.{days_from_civil}
use Rattle.money_core.specs.declared.day.Day.{Day}
use Rattle.journal_lines.specs.Date.{IsDay, is_month_or_day, number_of, is_separator}
use Rattle.journal_lines.specs.DateReading.{HasDateParts, day_of, month_part, day_part, year_part, separator}
use Rattle.journal_lines.proofs.LineSteps.{whole_rest}
use Rattle.journal_lines.proofs.date.day_of_date.Goals as goal

-- the day that was found of the parts is the date's
whole : (text : List ℕ) (r : Option Day) (y m d : ℕ) → 4 < length text → is_separator (separator text) ≡ true
    → (list_all is_ascii_digit (year_part text) ≡ true) × (y ≡ number_of (year_part text))
    → (is_month_or_day (month_part text) ≡ true) × (m ≡ number_of (month_part text))
    → (is_month_or_day (day_part text) ≡ true) × (d ≡ number_of (day_part text))
    → SomeIff r (IsDay y m d) (record { 0 = days_from_civil (pos y) m d }) → SomeIff r (HasDateParts text) (day_of text)
whole text r y m d long sep year month day h =
    let parts : SomeIff r (IsDay (number_of (year_part text)) (number_of (month_part text)) (number_of (day_part text)))
    (day_of text) = rw (← year.1, ← month.1, ← day.1) h in
    elim r as (λ s. SomeIff s (IsDay (number_of (year_part text)) (number_of (month_part text))
    (number_of (day_part text))) (day_of text) → SomeIff s (HasDateParts text) (day_of text)) [
      | None ↦ λ none is. none is.exists
      | Some x ↦ λ some. (
        record {
          long = long;
          year = year.0;
          separated = sep;
          month = month.0;
          day = day.0;
          exists = some.0;
        },
        some.1,
      )
    ] parts

pub returns-in_err-month : goal.returns-in_err-month
returns-in_err-month c =
    let month = rw (c.before-2.ensures, whole_rest 5 c.args.text.now) at c.in_err-month.ensures.value in
    rw c.from_residual-in_err-month.ensures (λ is. month is.month)

pub returns-in_err-day : goal.returns-in_err-day
returns-in_err-day c =
    let day = rw (c.behind.ensures, whole_rest 5 c.args.text.now) at c.in_err-day.ensures.value in
    rw c.from_residual-in_err-day.ensures (λ is. day is.day)

pub returns : goal.returns
returns c =
    let month = rw (c.before-2.ensures, whole_rest 5 c.args.text.now) at c.in_ok-month.ensures.value in
    let day = rw (c.behind.ensures, whole_rest 5 c.args.text.now) at c.in_ok-day.ensures.value in
    whole c.args.text.now c.day_number.result _ _ _ (omega arith) (sym c.if-not-is_separator.ensures)
    c.in_ok-year.ensures.value month day c.day_number.ensures
