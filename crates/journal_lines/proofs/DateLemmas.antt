-- What a date names, and that a printed date reads back.
use Rattle.std.proofs.Common.{◌≡◌, ◌≤◌, ◌<◌, ◌↔◌, ◌+◌, ◌-◌, ◌*◌, ◌/◌, ◌%◌, ◌++◌, ◌==◌, ℕ, zero, suc, ℤ, pos, negsuc}
use Rattle.std.proofs.Common.{neg_ℤ, ◌-ℤ◌, ◌≤ℤ◌, ◌<ℤ◌, int_le, unsigned_abs, List, [], ◌∷◌, true, false, not, ◌&&◌}
use Rattle.std.proofs.Common.{◌||◌, length, take, drop, min, arith, refl, ap, ◌∙◌, sym, subst, Option, Some, None}
use Rattle.std.proofs.Common.{nat_lt, nat_le, inl, inr, Bool, IsTrue, IfSome, unwrap_or, length-append}
use Rattle.std.proofs.Common.{take-append-drop}
use Rattle.std.proofs.lemmas.Grind.{common_steps}
use Rattle.std.proofs.lemmas.Int.{ints, by_lt_z}
use Rattle.std.proofs.lemmas.Bool.{and_parts, and_from, eq-eqb, cases_lt, cases_Bool, lt-ltb, ltb-true}
use Rattle.std.specs.Option.{SomeIff}
use Rattle.std.specs.List.{list_all, position_or_len, before_first, after_first}
use Rattle.std.proofs.Math.Seq.{take-append_seam, drop-append-add, drop-cons}
use Rattle.std.proofs.lemmas.List.{get_or_at, take_at, length-take, length-drop}
use Rattle.journal_lines.proofs.CutLemmas.{before_mark, at_mark, all_weaker}
use Rattle.std.specs.Char.{is_ascii_digit}
use Rattle.jiff_core.specs.Calendar.{days_from_civil, days_in_month, IsCivilDate, IsYear}
use Rattle.jiff_core.proofs.SignedLemmas.{signed_arith}
use Rattle.jiff_core.proofs.CalendarLemmas.{days_from_civil-day_count, day_count-lt_year, day_count-lt_month}
use Rattle.jiff_core.proofs.CalendarLemmas.{day_count-later_year, days_in_month_bounds, day_count_bounds}
use Rattle.jiff_core.proofs.MarchLemmas.{day_count-early}
use Rattle.jiff_core.proofs.DateLemmas.{days_from_civil-max, days_from_civil-day, days_from_civil-next_month}
use Rattle.jiff_core.proofs.DateLemmas.{days_from_civil-next_year}
use Rattle.money_core.specs.declared.day.Day.{Day}
use Rattle.money_core.proofs.RoundTrip.{digit_is_digit, digit_value_is}
use Rattle.money_core.proofs.TestLemmas.{int_le-true, le_from_int_le}
use Rattle.journal_lines.specs.Date.{IsDay, IsDate, is_separator, is_month_or_day, number_of, IsDayNumber, last_begun}
use Rattle.journal_lines.specs.Date.{year_of}
use Rattle.journal_lines.specs.Date.{month_of, day_of_month, two_digits, four_digits, printed_date, IsDateText}
use Rattle.journal_lines.specs.Date.{is_in_calendar}
use Rattle.journal_lines.specs.DateReading.{HasDateParts, year_part, behind_year, month_part, day_part, separator}
use Rattle.journal_lines.specs.DateReading.{day_of, is_day, is_date, date_of}

-- the number of the first day
pub days_from_civil-first : days_from_civil (pos 1) 1 1 ≡ neg_ℤ (pos 719_162)
days_from_civil-first = omega (
  arith,
  signed_arith,
  days_from_civil-day_count,
  day_count-early (pos 1) 10000 1 1 refl (omega arith) (omega arith) (omega arith),
)

-- the days of the years 1 to 9999 in numbers
pub day_number_bounds : (day : Day) → IsDayNumber day → (neg_ℤ (pos 719_162) ≤ℤ day.0) × (day.0 ≤ℤ pos 2_932_896)
day_number_bounds day h = (rw (← days_from_civil-first) h.low, rw (← days_from_civil-max) h.high)

pub day_number_from : (day : Day) → neg_ℤ (pos 719_162) ≤ℤ day.0 → day.0 ≤ℤ pos 2_932_896 → IsDayNumber day
day_number_from day low high = record { low = rw days_from_civil-first low; high = rw days_from_civil-max high }

in_calendar : (day : Day) → IsDayNumber day → is_in_calendar day ≡ true
in_calendar day h = let bounds = day_number_bounds day h in grind (arith, ints, bounds.0, bounds.1)

from_calendar : (day : Day) → is_in_calendar day ≡ true → IsDayNumber day
from_calendar day h =
    let parts = and_parts (int_le (negsuc 719161) day.0) _ h in
    let low = le_from_int_le (negsuc 719161) day.0 parts.0 in
    let high = le_from_int_le day.0 (pos 2932896) parts.1 in
    day_number_from day (omega (arith, ints, low)) (omega (arith, ints, high))

-- a test of it
pub calendar_test : (day : Day) (b : Bool) → IsTrue b ↔ IsDayNumber day → b ≡ is_in_calendar day
calendar_test day true h = sym (in_calendar day (h.0 refl))
calendar_test day false h =
    elim (cases_Bool (is_in_calendar day)) [
      | inl has ↦ absurd (let wrong : false ≡ true = h.1 (from_calendar day has) in cc)
      | inr lacks ↦ sym lacks
    ]

-- a year begins on or before each of its days
year_begins : (y : ℤ) (m d : ℕ) → IsCivilDate y m d → days_from_civil y 1 1 ≤ℤ days_from_civil y m d
year_begins y m d h = elim (cases_lt 1 m) [
  | inl later ↦ omega (
    arith,
    signed_arith,
    days_from_civil-day_count y 1 1,
    days_from_civil-day_count y m d,
    day_count-lt_month y 1 1 m d
        (h.0, (omega arith, omega arith), (omega arith, omega (arith, (days_in_month_bounds y 1).1))) h.2.0 later,
  )
  | inr first ↦ (let january : m ≡ 1 = omega (arith, h.1.0, first) in
      rw january (omega (arith, signed_arith, days_from_civil-day y 1 1 d (omega arith) h.2.0, h.2.0)))
]

-- a later year begins after the day
year_is_over : (y later : ℤ) (m d : ℕ) → IsCivilDate y m d → y <ℤ later
    → days_from_civil y m d <ℤ days_from_civil later 1 1
year_is_over y later m d h lt =
    omega (
      arith,
      signed_arith,
      days_from_civil-day_count y m d,
      days_from_civil-day_count later 1 1,
      day_count-lt_year y m d later 1 1 h (omega arith) lt,
    )

-- a month begins on or before each of its days
month_begins : (y : ℤ) (m d : ℕ) → 1 ≤ d → days_from_civil y m 1 ≤ℤ days_from_civil y m d
month_begins y m d first = omega (arith, signed_arith, days_from_civil-day y m 1 d (omega arith) first, first)

-- a later month begins after the day
month_is_over : (y : ℤ) (m d later : ℕ) → IsCivilDate y m d → m < later
    → days_from_civil y m d <ℤ days_from_civil y later 1
month_is_over y m d later h lt =
    omega (
      arith,
      signed_arith,
      days_from_civil-day_count y m d,
      days_from_civil-day_count y later 1,
      day_count-lt_month y m d later 1 h (omega arith) lt,
    )

int_le-false : (a b : ℤ) → b <ℤ a → int_le a b ≡ false
int_le-false a b h = grind (arith, ints)

-- what has begun, and is over before the next one
pub last_begun_is : (first_day : ℕ → ℤ) (day : ℤ) (n k : ℕ) → 1 ≤ k → k ≤ n → first_day k ≤ℤ day
    → ((j : ℕ) → k < j → j ≤ n → day <ℤ first_day j) → last_begun first_day day n ≡ k
unfolding last_begun
last_begun_is first_day day zero k low high begun over = absurd (omega arith)
last_begun_is first_day day (suc n) k low high begun over = elim (cases_lt k (suc n)) [
  | inl earlier ↦ rw (int_le-false (first_day (suc n)) day (over (suc n) earlier (omega arith)))
      (last_begun_is first_day day n k low (omega (arith, earlier)) begun (λ j lt le. over j lt (omega (arith, le))))
  | inr last ↦ (let same : k ≡ suc n = omega (arith, last, high) in
      let here : first_day (suc n) ≤ℤ day = subst (λ (j : ℕ). first_day j ≤ℤ day) same begun in
      rw (int_le-true (first_day (suc n)) day here) (sym same))
]

-- the parts of a day's date
pub year_of_is : (y m d : ℕ) → IsDay y m d → year_of (record { 0 = days_from_civil (pos y) m d }) ≡ y
year_of_is y m d h = last_begun_is (λ year. days_from_civil (pos year) 1 1) (days_from_civil (pos y) m d) 9999 y h.0
    (omega (arith, signed_arith, h.1.0))
    (year_begins (pos y) m d h.1) (λ j lt le. year_is_over (pos y) (pos j) m d h.1 (omega (arith, signed_arith, lt)))

month_in : (y m d : ℕ) → IsDay y m d
    → last_begun (λ month. days_from_civil (pos y) month 1) (days_from_civil (pos y) m d) 12 ≡ m
month_in y m d h =
    last_begun_is (λ month. days_from_civil (pos y) month 1) (days_from_civil (pos y) m d) 12 m h.1.1.0 h.1.1.1
    (month_begins (pos y) m d h.1.2.0) (λ j lt le. month_is_over (pos y) m d j h.1 lt)

pub month_of_is : (y m d : ℕ) → IsDay y m d → month_of (record { 0 = days_from_civil (pos y) m d }) ≡ m
month_of_is y m d h = rw (year_of_is y m d h) (month_in y m d h)

pub day_of_month_is : (y m d : ℕ) → IsDay y m d → day_of_month (record { 0 = days_from_civil (pos y) m d }) ≡ d
day_of_month_is y m d h =
    let since : days_from_civil (pos y) m d -ℤ days_from_civil (pos y) m 1 ≡ pos (d - 1) =
    omega (arith, signed_arith, days_from_civil-day (pos y) m 1 d (omega arith) h.1.2.0, h.1.2.0) in
    rw (year_of_is y m d h, month_in y m d h, since) (omega (arith, h.1.2.0))

-- the printed date of a year, month and day
same_parts : (y m d y' m' d' : ℕ) → y ≡ y' → m ≡ m' → d ≡ d'
    → four_digits y ++ (45 ∷ (two_digits m ++ (45 ∷ two_digits d)))
    ≡ four_digits y' ++ (45 ∷ (two_digits m' ++ (45 ∷ two_digits d')))
same_parts y m d y' m' d' ey em ed = rw (ey, em, ed) refl

pub printed_date_is : (y m d : ℕ) → IsDay y m d
    → printed_date (record { 0 = days_from_civil (pos y) m d })
    ≡ four_digits y ++ (45 ∷ (two_digits m ++ (45 ∷ two_digits d)))
unfolding printed_date
printed_date_is y m d h =
    let day : Day = record { 0 = days_from_civil (pos y) m d } in
    same_parts (year_of day) (month_of day) (day_of_month day) y m d (year_of_is y m d h) (month_of_is y m d h)
    (day_of_month_is y m d h)

-- a date of the calendar whose day is one of the years 1 to 9999 has such a year
pub year_is_positive : (y : ℤ) (m d : ℕ) (day : Day) → IsCivilDate y m d → days_from_civil y m d ≡ day.0
    → IsDayNumber day → pos 1 ≤ℤ y
year_is_positive y m d day h e is = by_lt_z y (pos 1)
    (λ lt. absurd (omega (arith, signed_arith, year_is_over y (pos 1) m d h lt, is.low, e)))
    (λ ge. ge)

-- the calendar's test
day_test : (y m d : ℕ) → IsDay y m d → is_day y m d ≡ true
day_test y m d h =
    and_from _ _ (and_from _ _ (and_from _ _
    (and_from _ _ (and_from _ _ (leb y 1 h.0) (le y 9999 (omega (arith, signed_arith, h.1.0)))) (leb m 1 h.1.1.0))
    (le m 12 h.1.1.1)) (leb d 1 h.1.2.0)) (le d (days_in_month (pos y) m) h.1.2.1)
  where
    le : (a b : ℕ) → a ≤ b → nat_le a b ≡ true
    le a b h = grind arith

    leb : (a b : ℕ) → b ≤ a → nat_le b a ≡ true
    leb a b h = le b a h

day_from_test : (y m d : ℕ) → is_day y m d ≡ true → IsDay y m d
day_from_test y m d h =
    let a = and_parts (nat_le 1 y && nat_le y 9999 && nat_le 1 m && nat_le m 12 && nat_le 1 d) _ h in
    let b = and_parts (nat_le 1 y && nat_le y 9999 && nat_le 1 m && nat_le m 12) _ a.0 in
    let e = and_parts (nat_le 1 y && nat_le y 9999 && nat_le 1 m) _ b.0 in
    let f = and_parts (nat_le 1 y && nat_le y 9999) _ e.0 in
    let g = and_parts (nat_le 1 y) _ f.0 in
    let y1 = le 1 y g.0 in
    let y2 = le y 9999 g.1 in
    (y1, (omega (arith, signed_arith, y2), (le 1 m f.1, le m 12 e.1), (le 1 d b.1, le d (days_in_month (pos y) m) a.1)))
  where
    le : (a b : ℕ) → nat_le a b ≡ true → a ≤ b
    le a b h = grind arith

-- the facts of a date, as a test
pub date_test : (text : List ℕ) → HasDateParts text → is_date text ≡ true
date_test text h = and_from _ _
    (and_from _ _
    (and_from _ _ (and_from _ _ (and_from _ _ (lt-ltb 4 (length text) h.long) h.year) h.separated) h.month) h.day)
    (day_test (number_of (year_part text)) (number_of (month_part text)) (number_of (day_part text)) h.exists)

pub date_from_test : (text : List ℕ) → is_date text ≡ true → HasDateParts text
date_from_test text h =
    let a = and_parts (nat_lt 4 (length text) && list_all is_ascii_digit (year_part text)
    && is_separator (separator text) && is_month_or_day (month_part text) && is_month_or_day (day_part text)) _ h in
    let b = and_parts (nat_lt 4 (length text) && list_all is_ascii_digit (year_part text)
    && is_separator (separator text) && is_month_or_day (month_part text)) _ a.0 in
    let e = and_parts (nat_lt 4 (length text) && list_all is_ascii_digit (year_part text)
    && is_separator (separator text)) _ b.0 in
    let f = and_parts (nat_lt 4 (length text) && list_all is_ascii_digit (year_part text)) _ e.0 in
    let g = and_parts (nat_lt 4 (length text)) _ f.0 in
    record {
      long = ltb-true 4 (length text) g.0;
      year = g.1;
      separated = f.1;
      month = e.1;
      day = b.1;
      exists = day_from_test (number_of (year_part text)) (number_of (month_part text)) (number_of (day_part text)) a.1;
    }

-- what a date names
pub date_of_is : (text : List ℕ) (r : Option Day) → SomeIff r (HasDateParts text) (day_of text) → r ≡ date_of text
unfolding date_of
date_of_is text None h = elim (cases_Bool (is_date text)) [
  | inl is ↦ absurd (h (date_from_test text is))
  | inr other ↦ rw other refl
]
date_of_is text (Some x) h = rw (date_test text h.0) (ap (λ (day : Day). Some day) (h.1))

-- a date names a day of the years 1 to 9999
pub day_in_range : (y m d : ℕ) → IsDay y m d → IsDayNumber (record { 0 = days_from_civil (pos y) m d })
day_in_range y m d h = record { low = first; high = last }
  where
    first : days_from_civil (pos 1) 1 1 ≤ℤ days_from_civil (pos y) m d
    first = by_lt_z (pos 1) (pos y)
        (λ lt. omega (
          arith,
          signed_arith,
          days_from_civil-day_count (pos 1) 1 1,
          days_from_civil-day_count (pos y) 1 1,
          day_count-later_year (pos 1) (pos y) (omega (arith, signed_arith)) lt,
          year_begins (pos y) m d h.1,
        ))
        (λ ge. let same : y ≡ 1 = omega (arith, signed_arith, ge, h.0) in subst
        (λ (n : ℕ). days_from_civil (pos n) 1 1 ≤ℤ days_from_civil (pos y) m d) same (year_begins (pos y) m d h.1))

    last : days_from_civil (pos y) m d ≤ℤ days_from_civil (pos 9999) 12 31
    last = rw days_from_civil-max (omega
        (arith, signed_arith, days_from_civil-day_count (pos y) m d, day_count_bounds (pos y) m d h.1))

pub read_range : (text : List ℕ) (r : Option Day) → SomeIff r (HasDateParts text) (day_of text) → IfSome r IsDayNumber
read_range text None h = tt
read_range text (Some x) h = subst IsDayNumber (sym h.1)
    (day_in_range (number_of (year_part text)) (number_of (month_part text)) (number_of (day_part text)) h.0.exists)

number_two : (a b : ℕ) → a < 10 → b < 10 → number_of ((48 + a) ∷ (48 + b) ∷ []) ≡ 10 * a + b
number_two a b h k = rw (digit_value_is a h, digit_value_is b k) (omega arith)

number_four : (a b c d : ℕ) → a < 10 → b < 10 → c < 10 → d < 10
    → number_of ((48 + a) ∷ (48 + b) ∷ (48 + c) ∷ (48 + d) ∷ []) ≡ 1000 * a + 100 * b + 10 * c + d
number_four a b c d h k l m =
    rw (digit_value_is a h, digit_value_is b k, digit_value_is c l, digit_value_is d m) (omega arith)

-- the bytes of a date
form_of : (n : ℕ) → n < 10 → (is_ascii_digit (48 + n) || (48 + n == 45)) ≡ true
form_of n h = rw (digit_is_digit n h) refl

-- a printed date reads as its day
pub civil_reads : (y m d : ℕ) → IsDay y m d
    → IsDateText (record { 0 = days_from_civil (pos y) m d })
    (four_digits y ++ (45 ∷ (two_digits m ++ (45 ∷ two_digits d))))
civil_reads y m d h =
    let small_y : y ≤ 9999 = omega (arith, signed_arith, h.1.0) in
    let small_m : m ≤ 12 = h.1.1.1 in
    let small_d : d ≤ 31 = omega (arith, h.1.2.1, (days_in_month_bounds (pos y) m).0) in
    let a : y / 1000 % 10 < 10 = omega arith in
    let b : y / 100 % 10 < 10 = omega arith in
    let c : y / 10 % 10 < 10 = omega arith in
    let e : y % 10 < 10 = omega arith in
    let f : m / 10 % 10 < 10 = omega arith in
    let g : m % 10 < 10 = omega arith in
    let i : d / 10 % 10 < 10 = omega arith in
    let j : d % 10 < 10 = omega arith in
    let ny : number_of (four_digits y) ≡ y =
    number_four (y / 1000 % 10) (y / 100 % 10) (y / 10 % 10) (y % 10) a b c e ∙ omega (arith, small_y) in
    let nm : number_of (two_digits m) ≡ m = number_two (m / 10 % 10) (m % 10) f g ∙ omega (arith, small_m) in
    let nd : number_of (two_digits d) ≡ d = number_two (d / 10 % 10) (d % 10) i j ∙ omega (arith, small_d) in
    record {
      reads = record {
        year = four_digits y;
        separator = 45;
        month = two_digits m;
        place = two_digits d;
        written = refl;
        separated = refl;
        four = refl;
        year_digits =
            rw (
              digit_is_digit (y / 1000 % 10) a,
              digit_is_digit (y / 100 % 10) b,
              digit_is_digit (y / 10 % 10) c,
              digit_is_digit (y % 10) e,
            ) refl;
        month_digits = rw (digit_is_digit (m / 10 % 10) f, digit_is_digit (m % 10) g) refl;
        place_digits = rw (digit_is_digit (d / 10 % 10) i, digit_is_digit (d % 10) j) refl;
        exists = rw (ny, nm, nd) h;
        named = rw (ny, nm, nd) refl;
      };
      form = rw (
        form_of (y / 1000 % 10) a,
        form_of (y / 100 % 10) b,
        form_of (y / 10 % 10) c,
        form_of (y % 10) e,
        form_of (m / 10 % 10) f,
        form_of (m % 10) g,
        form_of (d / 10 % 10) i,
        form_of (d % 10) j,
      ) refl;
      first = digit_is_digit (y / 1000 % 10) a;
      ten = refl;
    }

-- the printed date of a day in the calendar
pub date_printed : (y : ℤ) (m d n : ℕ) (day : Day) → IsCivilDate y m d → pos 1 ≤ℤ y → n ≡ unsigned_abs y
    → days_from_civil y m d ≡ day.0
    → four_digits n ++ (45 ∷ (two_digits m ++ (45 ∷ two_digits d))) ≡ printed_date day
date_printed (pos y) m d n day h low same e =
    let whole : day ≡ record { 0 = days_from_civil (pos y) m d } = day_same day (days_from_civil (pos y) m d) (sym e) in
    same_parts n m d y m d same refl refl ∙
    (sym (printed_date_is y m d (omega (arith, signed_arith, low), h)) ∙ ap printed_date (sym whole))
  where
    day_same : (a : Day) (z : ℤ) → a.0 ≡ z → a ≡ record { 0 = z }
    day_same a z e = ap (λ (x : ℤ). (let r : Day = record { 0 = x } in r)) e
date_printed (negsuc y) m d n day h low same e = absurd (omega (arith, signed_arith, low))

-- a printed date reads as its day
pub printed_date_reads : (y : ℤ) (m d : ℕ) (day : Day) → IsCivilDate y m d → pos 1 ≤ℤ y → days_from_civil y m d ≡ day.0
    → IsDateText day (printed_date day)
printed_date_reads (pos y) m d day h low e =
    let is : IsDay y m d = (omega (arith, signed_arith, low), h) in
    let whole : record { 0 = days_from_civil (pos y) m d } ≡ day = day_same day (days_from_civil (pos y) m d) (sym e) in
    let text = printed_date_is y m d is in
    let reads = civil_reads y m d is in
    subst (λ (a : Day). IsDateText a (printed_date a)) whole
    (subst (λ (t : List ℕ). IsDateText (record { 0 = days_from_civil (pos y) m d }) t) (sym text) reads)
  where
    day_same : (a : Day) (z : ℤ) → a.0 ≡ z → record { 0 = z } ≡ a
    day_same a z e = ap (λ (x : ℤ). (let r : Day = record { 0 = x } in r)) (sym e)
printed_date_reads (negsuc y) m d day h low e = absurd (omega (arith, signed_arith, low))

-- a year of at most four digits
pub small_year : (y : ℤ) → pos 1 ≤ℤ y → IsYear y → unsigned_abs y ≤ 9999
small_year (pos n) low h = omega (arith, signed_arith, h)
small_year (negsuc n) low h = absurd (omega (arith, signed_arith, low))

-- what is known of the last that has begun
pub record IsLastBegun (first_day : ℕ → ℤ) (day : ℤ) (n k : ℕ) : Type 0 where
  pub low : 1 ≤ k
  pub high : k ≤ n
  pub begun : first_day k ≤ℤ day
  pub over : k < n → day <ℤ first_day (k + 1)

last_begun_has : (first_day : ℕ → ℤ) (day : ℤ) (n : ℕ) → first_day 1 ≤ℤ day → 1 ≤ n
    → IsLastBegun first_day day n (last_begun first_day day n)
unfolding last_begun
last_begun_has first_day day zero first some = absurd (omega arith)
last_begun_has first_day day (suc n) first some = by_lt_z day (first_day (suc n))
    (λ before. rw (int_le-false (first_day (suc n)) day before) (elim (cases_lt 0 n) [
      | inl more ↦ (let rest = last_begun_has first_day day n first (omega (arith, more)) in
          record {
            low = rest.low;
            high = omega (arith, rest.high);
            begun = rest.begun;
            over = λ below.
                after (last_begun first_day day n) rest before below;
          })
      | inr none ↦ (let one : suc n ≡ 1 = omega (arith, none) in
          absurd (omega (arith, signed_arith, subst (λ (k : ℕ). day <ℤ first_day k) one before, first)))
    ]))
    (λ begun. rw (int_le-true (first_day (suc n)) day begun)
    (record {
      low = omega arith;
      high = omega arith;
      begun = begun;
      over = λ below.
          absurd (omega (arith, below));
    }))
  where
    after : (k : ℕ) → IsLastBegun first_day day n k → day <ℤ first_day (suc n) → k < suc n → day <ℤ first_day (k + 1)
    after k rest before below = elim (cases_lt k n) [
      | inl lower ↦ rest.over lower
      | inr last ↦ subst (λ (j : ℕ). day <ℤ first_day j) (omega (arith, rest.high, last)) before
    ]

not_negative : (z : ℤ) → pos 0 ≤ℤ z → z ≡ pos (unsigned_abs z)
not_negative (pos n) h = refl
not_negative (negsuc n) h = absurd (omega (arith, signed_arith, h))

-- the day in a month that has begun and is not over
civil_from : (day : Day) (y m d : ℕ) → 1 ≤ y → y ≤ 9999 → 1 ≤ m → m ≤ 12 → days_from_civil (pos y) m 1 ≤ℤ day.0
    → (m < 12 → day.0 <ℤ days_from_civil (pos y) (m + 1) 1)
    → day.0 <ℤ days_from_civil (pos (y + 1)) 1 1 → day.0 -ℤ days_from_civil (pos y) m 1 ≡ pos d
    → IsDay y m (d + 1) × (days_from_civil (pos y) m (d + 1) ≡ day.0)
civil_from day y m d y_low y_high m_low m_high begun over year_over since =
    let same : days_from_civil (pos y) m (d + 1) ≡ day.0 =
    omega (arith, signed_arith, days_from_civil-day (pos y) m 1 (d + 1) (omega arith) (omega arith), since) in
    let long : d + 1 ≤ days_in_month (pos y) m = elim (cases_lt m 12) [
      | inl earlier ↦ omega (
        arith,
        signed_arith,
        since,
        over earlier,
        days_from_civil-next_month (pos y) m (days_in_month (pos y) m) m_low refl,
        days_from_civil-day (pos y) m 1 (days_in_month (pos y) m) (omega arith)
            (omega (arith, (days_in_month_bounds (pos y) m).1)),
      )
      | inr last ↦ (let december : m ≡ 12 = omega (arith, last, m_high) in
          subst (λ (k : ℕ). d + 1 ≤ days_in_month (pos y) k) (sym december)
          (in_december (subst (λ (k : ℕ). day.0 -ℤ days_from_civil (pos y) k 1 ≡ pos d) december since)))
    ] in
    ((y_low, (omega (arith, signed_arith, y_high), (m_low, m_high), (omega arith, long))), same)
  where
    in_december : day.0 -ℤ days_from_civil (pos y) 12 1 ≡ pos d → d + 1 ≤ 31
    in_december since = omega (
      arith,
      signed_arith,
      since,
      year_over,
      days_from_civil-next_year (pos y) (pos (y + 1)) (omega (arith, signed_arith)) (omega (arith, signed_arith)),
      days_from_civil-day (pos y) 12 1 31 (omega arith) (omega arith),
    )

-- the date of each day of the years 1 to 9999 is in the calendar, and is that day
pub civil_of_day : (day : Day) → IsDayNumber day
    → IsDay (year_of day) (month_of day) (day_of_month day)
    × (days_from_civil (pos (year_of day)) (month_of day) (day_of_month day) ≡ day.0)
civil_of_day day h =
    let year = last_begun_has (λ y. days_from_civil (pos y) 1 1) day.0 9999 h.low (omega arith) in
    in_year (year_of day) year
    (elim (cases_lt (year_of day) 9999) [
      | inl earlier ↦ year.over earlier
      | inr last ↦ (let same : year_of day ≡ 9999 = omega (arith, year.high, last) in
          subst (λ (y : ℕ). day.0 <ℤ days_from_civil (pos (y + 1)) 1 1) (sym same)
          (omega (
            arith,
            signed_arith,
            h.high,
            days_from_civil-next_year (pos 9999) (pos 10000) (omega (arith, signed_arith)) refl,
          )))
    ])
  where
    in_month : (y m : ℕ) → 1 ≤ y → y ≤ 9999 → IsLastBegun (λ month. days_from_civil (pos y) month 1) day.0 12 m
        → day.0 <ℤ days_from_civil (pos (y + 1)) 1 1
        → IsDay y m (unsigned_abs (day.0 -ℤ days_from_civil (pos y) m 1) + 1)
        × (days_from_civil (pos y) m (unsigned_abs (day.0 -ℤ days_from_civil (pos y) m 1) + 1) ≡ day.0)
    in_month y m low high month over =
        let since = not_negative (day.0 -ℤ days_from_civil (pos y) m 1) (omega (arith, signed_arith, month.begun)) in
        civil_from day y m (unsigned_abs (day.0 -ℤ days_from_civil (pos y) m 1)) low high month.low month.high
        month.begun month.over over since

    in_year : (y : ℕ) → IsLastBegun (λ year. days_from_civil (pos year) 1 1) day.0 9999 y
        → day.0 <ℤ days_from_civil (pos (y + 1)) 1 1
        → IsDay y (last_begun (λ month. days_from_civil (pos y) month 1) day.0 12)
        (unsigned_abs
        (day.0 -ℤ days_from_civil (pos y) (last_begun (λ month. days_from_civil (pos y) month 1) day.0 12) 1) + 1)
        × (days_from_civil (pos y) (last_begun (λ month. days_from_civil (pos y) month 1) day.0 12)
        (unsigned_abs
        (day.0 -ℤ days_from_civil (pos y) (last_begun (λ month. days_from_civil (pos y) month 1) day.0 12) 1) + 1)
        ≡ day.0)
    in_year y year over =
        in_month y (last_begun (λ month. days_from_civil (pos y) month 1) day.0 12) year.low year.high
        (last_begun_has (λ month. days_from_civil (pos y) month 1) day.0 12 year.begun (omega arith)) over

-- each day of the years 1 to 9999 is printed as a date that reads as it
pub dates_print : (day : Day) → IsDayNumber day → IsDateText day (printed_date day)
dates_print day h =
    let civil = civil_of_day day h in
    printed_date_reads (pos (year_of day)) (month_of day) (day_of_month day) day civil.0.1
    (omega (arith, signed_arith, civil.0.0)) civil.1

-- a date that is read is of those years
pub dates_bound : (text : List ℕ) (day : Day) → date_of text ≡ Some day → IsDayNumber day
unfolding date_of
dates_bound text day e = elim (cases_Bool (is_date text)) [
  | inl is ↦ (let found : Some (day_of text) ≡ Some day = rw is at e in
      let same : day_of text ≡ day = some_same (day_of text) day found in
      let facts = date_from_test text is in
      subst IsDayNumber same (day_in_range (number_of (year_part text)) (number_of (month_part text))
      (number_of (day_part text)) facts.exists))
  | inr other ↦ (let none : None ≡ Some day = rw other at e in absurd (none_some day none))
]
  where
    some_same : (a b : Day) → Some a ≡ Some b → a ≡ b
    some_same a b h = ap (λ (o : Option Day). unwrap_or o a) h

    none_some : (b : Day) → None ≡ Some b → ⊥
    none_some b h = cc

-- what is known of a text that names a day
pub date_facts : (text : List ℕ) (day : Day) → date_of text ≡ Some day → HasDateParts text × (day_of text ≡ day)
unfolding date_of
date_facts text day e = elim (cases_Bool (is_date text)) [
  | inl is ↦ (let found : Some (day_of text) ≡ Some day = rw is at e in
      (date_from_test text is, ap (λ (o : Option Day). unwrap_or o (day_of text)) found))
  | inr other ↦ (let none : None ≡ Some day = rw other at e in absurd (none_some day none))
]
  where
    none_some : (b : Day) → None ≡ Some b → ⊥
    none_some b h = cc

-- ---- a date from left to right

-- the first mark after a text without it
at_first_mark : (s : ℕ) (month place : List ℕ) → list_all (λ b. not (b == s)) month ≡ true
    → (before_first (λ b. b == s) (month ++ s ∷ place) ≡ month)
    × (after_first (λ b. b == s) (month ++ s ∷ place) ≡ place)
at_first_mark s month place h =
    let at = before_mark (λ b. b == s) month place s h (eq-eqb s s refl) in
    (rw at (take-append_seam month (s ∷ place)), rw at (drop-append-add month (s ∷ place) 1))

-- a digit is no separator
no_separator : (s b : ℕ) → is_separator s ≡ true → is_ascii_digit b ≡ true → not (b == s) ≡ true
no_separator s b h k = grind (arith, common_steps)

-- the parts of a date by their places
record IsFound (year month place : List ℕ) (s : ℕ) (text : List ℕ) : Type 0 where
  year_is : year_part text ≡ year
  mark : separator text ≡ s
  month_is : month_part text ≡ month
  place_is : day_part text ≡ place

found_parts : (year month place : List ℕ) (s : ℕ) → length year ≡ 4 → is_separator s ≡ true
    → list_all is_ascii_digit month ≡ true → IsFound year month place s (year ++ (s ∷ (month ++ (s ∷ place))))
found_parts year month place s four sep digits =
    let rest = month ++ (s ∷ place) in
    let text = year ++ (s ∷ rest) in
    let marked : separator text ≡ s = get_or_at year s rest 0 4 (omega (arith, four)) in
    let n : 5 ≡ length year + 1 = omega (arith, four) in
    let behind : behind_year text ≡ rest = ap (λ (k : ℕ). drop k text) n ∙ drop-append-add year (s ∷ rest) 1 in
    let cut = at_first_mark s month place
    (all_weaker is_ascii_digit (λ b. not (b == s)) month (λ b digit. no_separator s b sep digit) digits) in
    record {
      year_is = take_at year (s ∷ rest) 4 (omega (arith, four));
      mark = marked;
      month_is = ap (λ (x : ℕ). before_first (λ b. b == x) (behind_year text)) marked ∙
          (ap (λ (xs : List ℕ). before_first (λ b. b == s) xs) behind ∙ cut.0);
      place_is = ap (λ (x : ℕ). after_first (λ b. b == x) (behind_year text)) marked ∙
          (ap (λ (xs : List ℕ). after_first (λ b. b == s) xs) behind ∙ cut.1);
    }

same_day : (y m d y' m' d' : ℕ) → y ≡ y' → m ≡ m' → d ≡ d' → IsDay y' m' d' → IsDay y m d
same_day y m d y' m' d' ey em ed h = rw (ey, em, ed) h

same_name : (y m d y' m' d' : ℕ) (day : Day) → y ≡ y' → m ≡ m' → d ≡ d'
    → day ≡ record { 0 = days_from_civil (pos y') m' d' } → record { 0 = days_from_civil (pos y) m d } ≡ day
same_name y m d y' m' d' day ey em ed h = rw (ey, em, ed) (sym h)

-- a date has its parts at their places
pub parts_of_date : (text : List ℕ) (day : Day) → IsDate text day → HasDateParts text × (day_of text ≡ day)
parts_of_date text day h =
    subst (λ (t : List ℕ). HasDateParts t × (day_of t ≡ day)) (sym h.written) (
      record {
        long = omega (arith, h.four, length-append h.year (h.separator ∷ (h.month ++ (h.separator ∷ h.place))));
        year = ap (list_all is_ascii_digit) f.year_is ∙ h.year_digits;
        separated = ap is_separator f.mark ∙ h.separated;
        month = ap is_month_or_day f.month_is ∙ h.month_digits;
        day = ap is_month_or_day f.place_is ∙ h.place_digits;
        exists =
            same_day _ _ _ _ _ _ (ap number_of f.year_is) (ap number_of f.month_is) (ap number_of f.place_is) h.exists;
      },
      same_name _ _ _ _ _ _ day (ap number_of f.year_is) (ap number_of f.month_is) (ap number_of f.place_is) h.named,
    )
  where
    f : IsFound h.year h.month h.place h.separator (h.year ++ (h.separator ∷ (h.month ++ (h.separator ∷ h.place))))
    f = found_parts h.year h.month h.place h.separator h.four h.separated
        (and_parts ((length h.month == 1) || (length h.month == 2)) _ h.month_digits).1

-- parts at their places are a date
pub date_from_parts : (text : List ℕ) → HasDateParts text → IsDate text (day_of text)
date_from_parts text h = record {
  year = year_part text;
  separator = separator text;
  month = month_part text;
  place = day_part text;
  written = sym (take-append-drop 4 text) ∙ ap (λ (xs : List ℕ). take 4 text ++ xs)
      (drop-cons text 4 0 h.long ∙ ap (λ (xs : List ℕ). separator text ∷ xs) rest);
  separated = h.separated;
  four = length-take 4 text ∙ four_of (length text) h.long;
  year_digits = h.year;
  month_digits = h.month;
  place_digits = h.day;
  exists = h.exists;
  named = refl;
}
  where
    four_of : (n : ℕ) → 4 < n → min 4 n ≡ 4
    four_of n k = omega (arith, k)

    some : 0 < length (day_part text)
    some = short_some (day_part text) h.day
      where
        short_some : (xs : List ℕ) → is_month_or_day xs ≡ true → 0 < length xs
        short_some [] k = absurd cc
        short_some (x ∷ xs) k = omega arith

    inside : position_or_len (λ b. b == separator text) (behind_year text) < length (behind_year text)
    inside =
        elim (cases_lt (position_or_len (λ b. b == separator text) (behind_year text)) (length (behind_year text))) [
          | inl found ↦ found
          | inr none ↦ absurd (omega (
            arith,
            some,
            none,
            length-drop (position_or_len (λ b. b == separator text) (behind_year text) + 1) (behind_year text),
          ))
        ]

    rest : behind_year text ≡ month_part text ++ (separator text ∷ day_part text)
    rest = at_mark (separator text) (behind_year text) inside

-- what a text names by the function, it names as a date
pub reads_date : (text : List ℕ) (day : Day) → date_of text ≡ Some day → IsDate text day
reads_date text day e = let facts = date_facts text day e in subst (IsDate text) facts.1 (date_from_parts text facts.0)

pub date_reads : (text : List ℕ) (day : Day) → IsDate text day → date_of text ≡ Some day
date_reads text day h = let facts =
    parts_of_date text day h in sym (date_of_is text (Some (day_of text)) (facts.0, refl)) ∙ ap (λ (d : Day). Some d)
    facts.1

pub date_iff : (text : List ℕ) (r : Option Day) → SomeIff r (HasDateParts text) (day_of text) → (day : Day)
    → (r ≡ Some day) ↔ IsDate text day
date_iff text r h day =
    let is = date_of_is text r h in (λ e. reads_date text day (sym is ∙ e), λ d. is ∙ date_reads text day d)
