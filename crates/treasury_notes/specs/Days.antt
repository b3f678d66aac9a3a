-- Days of a lock, a closing, a dispatch or a receipt that may be a slip, and entries that nobody may have checked (own
-- rule; docs/RULES.md, "Notes").
use Rattle.std.specs.Prelude.{ℕ, ◌==◌, ℤ, pos, int_lt, int_le, Bool, not, ◌&&◌, if◌then◌else◌, List, [], ◌∷◌, length}
use Rattle.std.specs.Prelude.{decimal, Option, Some, None}
use Rattle.std.specs.List.{list_any, count_by}
use Rattle.money_core.specs.declared.day.Day.{Day}
use Rattle.treasury_state.specs.declared.record.Record.{Record}
use Rattle.treasury_state.specs.declared.transfer.Transfer.{Transfer}
use Rattle.treasury_state.specs.Federation.{is_locked}
use Rattle.treasury_messages.specs.declared.kind.MessageKind.{MessageKind}
use Rattle.treasury_messages.specs.declared.kind.MessageKind.TheVariants as is
use Rattle.treasury_messages.specs.Said.{Said, says}
use Rattle.treasury_messages.specs.Pieces.{shown_day}
use Rattle.import_notes.specs.declared.days.Span.{Span}
use Rattle.import_notes.specs.FarDays.{is_after_by}
use Rattle.treasury_notes.specs.OpenYear.{day_after}

-- of a receipt whose day is more than 366 days after that of the dispatch, if that is there
abbrev pub late_said : Day → Option Transfer → List Said
late_said day None = []
late_said day (Some t) =
    if is_after_by (pos 366) t.day day then says is.LateReceipt (shown_day day ∷ t.id ∷ shown_day t.day ∷ []) ∷ []
    else []

-- of a lock or a closing of a branch at a day that is more than so many days after its newest entry
abbrev pub early_said : MessageKind → ℤ → List ℕ → Day → Option Span → List Said
early_said kind most branch day None = []
early_said kind most branch day (Some s) =
    if is_after_by most s.newest day then says kind (branch ∷ shown_day s.newest ∷ shown_day day ∷ []) ∷ [] else []

-- the entry is of a later day
abbrev pub is_later : Day → Record → Bool
is_later day r = int_lt day.0 r.entry.day.0

-- of a closing at a day before some entries: how many they are, and the day of the newest
abbrev pub later_said : List ℕ → List Record → Day → Option Span → List Said
later_said branch rs day None = []
later_said branch rs day (Some s) =
    if int_lt day.0 s.newest.0
    then says is.LaterEntries (branch ∷ decimal (count_by (is_later day) rs) ∷ shown_day day ∷ shown_day s.newest ∷ [])
    ∷ []
    else []

-- the entry is of the period that ends with the day: after that through which the branch was locked, if it was
abbrev pub is_in_period : Option Day → Day → Record → Bool
is_in_period locked day r = not (is_locked locked r.entry.day) && int_le r.entry.day.0 day.0

-- and a posting of it asserts a balance
abbrev pub asserts_in_period : Option Day → Day → Record → Bool
asserts_in_period locked day r = is_in_period locked day r && not (length r.entry.claims == 0)

-- the first day of the period, if there is one, and the last
abbrev pub period_values : Option Day → Day → List (List ℕ)
period_values None day = shown_day day ∷ []
period_values (Some lock) day =
    if int_lt lock.0 day.0 then shown_day (day_after lock) ∷ shown_day day ∷ [] else shown_day day ∷ []

-- of a lock or a closing of a branch that has entries in that period, and none that asserts a balance
abbrev pub unasserted_said : List ℕ → List Record → Option Day → Day → List Said
unasserted_said branch records locked day =
    if list_any (is_in_period locked day) records && not (list_any (asserts_in_period locked day) records)
    then says is.NoAssertion (branch ∷ period_values locked day) ∷ []
    else []
