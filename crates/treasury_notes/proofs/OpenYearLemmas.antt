-- whether one of some accounts is left open, looked at one after another; the end of a year
use Rattle.std.proofs.Common.{◌≡◌, ◌∙◌, refl, ap, sym, Bool, true, false, ◌||◌, ◌&&◌, ℕ, List, ◌∷◌}
use Rattle.std.specs.Prelude.{nat_eq, codes, ◌↔◌, IsTrue}
use Rattle.std.specs.List.{list_any, ends_with}
use Rattle.money_core.specs.declared.day.Day.{Day}
use Rattle.journal_lines.specs.Date.{IsDayNumber, is_in_calendar, printed_date}
use Rattle.journal_lines.proofs.DateLemmas.{calendar_test}
use Rattle.treasury_notes.specs.OpenYear.{is_end_of_year}

-- the first of those that are left does not pass the test: so one of all passes it as one after it does
pub passed_by_none : {X : Type 0} (test : X → Bool) (x : X) (left more : List X) (all : Bool) → left ≡ x ∷ more
    → test x ≡ false → list_any test left ≡ all → list_any test more ≡ all
passed_by_none test x left more all e f h =
    sym (ap (λ (t : Bool). t || list_any test more) f) ∙ (sym (ap (list_any test) e) ∙ h)

-- it does
pub passed_by_one : {X : Type 0} (test : X → Bool) (x : X) (left more : List X) (all : Bool) → left ≡ x ∷ more
    → test x ≡ true → list_any test left ≡ all → true ≡ all
passed_by_one test x left more all e f h =
    sym (ap (λ (t : Bool). t || list_any test more) f) ∙ (sym (ap (list_any test) e) ∙ h)

-- a 31 December is a day of the calendar
ends_so : Day → Bool → Bool
ends_so day t = t && ends_with nat_eq (printed_date day) (codes "-12-31")

left_of : (s t : Bool) → (s && t) ≡ true → s ≡ true
left_of true t e = refl
left_of false t e = e

pub end_of_year_is_dated : (day : Day) → is_end_of_year day ≡ true → is_in_calendar day ≡ true
end_of_year_is_dated day e =
    left_of (is_in_calendar day) (ends_with nat_eq (printed_date day) (codes "-12-31")) e

-- so its text tells, and a day without one is none
pub by_its_text : (day : Day) (is ends : Bool) (text : List ℕ) → IsTrue is ↔ IsDayNumber day → is ≡ true
    → text ≡ printed_date day → ends ≡ ends_with nat_eq text (codes "-12-31") → ends ≡ is_end_of_year day
unfolding ends_so
by_its_text day is ends text h e written said =
    said ∙ ap (λ (t : List ℕ). ends_with nat_eq t (codes "-12-31")) written
    ∙ sym (ap (ends_so day) (sym (calendar_test day is h) ∙ e))

pub without_text : (day : Day) (is : Bool) → IsTrue is ↔ IsDayNumber day → is ≡ false → false ≡ is_end_of_year day
unfolding ends_so
without_text day is h e = sym (ap (ends_so day) (sym (calendar_test day is h) ∙ e))
