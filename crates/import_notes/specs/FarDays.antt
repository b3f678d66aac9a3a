-- Days that may be a slip: far from the entries of a branch (own rule; docs/RULES.md, "Notes").
use Rattle.std.specs.Prelude.{ℕ, ◌-◌, nat_le, ℤ, pos, ◌+ℤ◌, int_lt, int_le, Bool, true, false, ◌&&◌, ◌||◌}
use Rattle.std.specs.Prelude.{if◌then◌else◌, List, [], ◌∷◌, ◌++◌, codes, decimal, Option, Some, None, slice_get}
use Rattle.std.specs.Prelude.{find}
use Rattle.std.specs.List.{count_by}
use Rattle.money_core.specs.declared.day.Day.{Day}
use Rattle.treasury_state.specs.declared.record.Record.{Record}
use Rattle.import_notes.specs.declared.days.Span.{Span}
use Rattle.import_notes.specs.Imported.{Imported}
use Rattle.treasury_messages.specs.declared.kind.MessageKind.TheVariants as is
use Rattle.treasury_messages.specs.Pieces.{shown_day}
use Rattle.treasury_messages.specs.Said.{Said, says}

-- the days of the oldest and the newest, with one more day
abbrev pub with_day : Option Span → Day → Option Span
with_day None day = Some (record { oldest = day; newest = day })
with_day (Some s) day = Some (record {
  oldest = if int_lt day.0 s.oldest.0 then day else s.oldest;
  newest = if int_lt s.newest.0 day.0 then day else s.newest;
})

-- those of the oldest and the newest of records, if there are any; those of the records before these
abbrev pub span_from : Option Span → List Record → Option Span
span_from span [] = span
span_from span (r ∷ rs) = span_from (with_day span r.entry.day) rs

abbrev pub span_of : List Record → Option Span
span_of records = span_from None records

-- the day is one of these two, or between them
abbrev pub holds : Span → Day → Bool
holds s day = int_le s.oldest.0 day.0 && int_le day.0 s.newest.0

-- the second day is more than so many days after the first
abbrev pub is_after_by : ℤ → Day → Day → Bool
is_after_by days first second = int_lt (first.0 +ℤ days) second.0

-- a day is far from others: more than 366 days after the newest, or before the oldest
abbrev pub is_far : Span → Day → Bool
is_far s day = is_after_by (pos 366) s.newest day || is_after_by (pos 366) day s.oldest

abbrev pub is_far_record : Span → Record → Bool
is_far_record s r = is_far s r.entry.day

-- the day is after the newest
abbrev pub is_after : Span → Day → Bool
is_after s day = int_lt s.newest.0 day.0

-- of so many days, how many more there are beside the first
abbrev pub more_far : ℕ → List (List ℕ)
more_far n = if nat_le n 1 then [] else decimal (n - 1) ∷ []

-- so many days are far from those of the entries that a branch had; the first is that day, and stands there
abbrev pub far_said : List (List ℕ) → Span → ℕ → Day → List ℕ → Said
far_said place s count day branch =
    if is_after s day
    then says is.FarAfter (place ++ shown_day day ∷ branch ∷ shown_day s.newest ∷ more_far count)
    else says is.FarBefore (place ++ shown_day day ∷ branch ∷ shown_day s.oldest ∷ more_far count)

-- the first of the new records that are far, and how many there are
abbrev pub far_at : Imported → (Record → ℕ) → Span → Option Record → List Said
far_at it line s None = []
far_at it line s (Some r) =
    far_said (it.source ∷ decimal (line r) ∷ []) s (count_by (is_far_record s) it.new) r.entry.day it.branch ∷ []

abbrev pub far_from : Imported → (Record → ℕ) → Option Span → List Said
far_from it line None = []
far_from it line (Some s) = far_at it line s (find (is_far_record s) it.new)

unfoldable pub far_notes : Imported → (Record → ℕ) → List Said
far_notes it line = far_from it line (span_of it.held)

-- the day of a dispatch or a receipt, if it is far from those of the entries that the branch had
abbrev pub far_if : Day → List ℕ → Option Span → List Said
far_if day branch None = []
far_if day branch (Some s) = if is_far s day then far_said (codes "--day" ∷ []) s 1 day branch ∷ [] else []

abbrev pub far_transfer : List Record → Day → List ℕ → List Said
far_transfer held day branch = far_if day branch (span_of held)
