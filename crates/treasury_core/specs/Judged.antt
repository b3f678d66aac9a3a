-- Mirrors code: what becomes of a transaction, by the record that holds its mark.
use Rattle.std.specs.Prelude.{Bool, true, false, if◌then◌else◌, List, Option, Some, None, Result, Ok, Err}
use Rattle.std.specs.Str.{bytes_eq}
use Rattle.money_core.specs.declared.style.Style.{Style}
use Rattle.money_core.specs.declared.day.Day.{Day}
use Rattle.money_core.specs.declared.cause.Cause.TheVariants.{MarkClash}
use Rattle.book_core.specs.declared.refusal.Refusal.{Refusal}
use Rattle.book_core.specs.declared.refusal.Refusal.TheVariants.{Plain}
use Rattle.journal_format.specs.CanonicalText.{body_text}
use Rattle.treasury_state.specs.declared.record.Record.{Record}
use Rattle.treasury_core.specs.Step.{barred}

-- new, unless it is barred
abbrev pub new_unless : Option Refusal → Result Bool Refusal
new_unless None = Ok true
new_unless (Some refusal) = Err refusal

-- whether it is new, or why it is refused
abbrev pub judged : List Style → Option Day → Record → Option Record → Result Bool Refusal
judged styles lock r None = new_unless (barred lock r)
judged styles lock r (Some h) =
    if bytes_eq (body_text styles h.txn) (body_text styles r.txn) then Ok false else Err (Plain MarkClash)
