-- a day that a text writes, and one that none does
use Rattle.std.proofs.Common.{◌≡◌, ◌∙◌, Bool, true, false, sym, ap}
use Rattle.std.specs.Prelude.{◌↔◌, IsTrue, codes, if◌then◌else◌}
use Rattle.money_core.specs.declared.day.Day.{Day}
use Rattle.journal_lines.specs.Date.{IsDayNumber, printed_date}
use Rattle.journal_lines.proofs.DateLemmas.{calendar_test}
use Rattle.treasury_messages.specs.Pieces.{shown_day}

pub day_written : (day : Day) (b : Bool) → IsTrue b ↔ IsDayNumber day → b ≡ true → printed_date day ≡ shown_day day
day_written day b h e =
    sym (ap (λ (t : Bool). if t then printed_date day else codes "?") (sym (calendar_test day b h) ∙ e))

pub day_unwritten : (day : Day) (b : Bool) → IsTrue b ↔ IsDayNumber day → b ≡ false → codes "?" ≡ shown_day day
day_unwritten day b h e =
    sym (ap (λ (t : Bool). if t then printed_date day else codes "?") (sym (calendar_test day b h) ∙ e))
