use Rattle.std.proofs.Common.{◌∙◌, ap}
use Rattle.journal_lines.specs.Date.{is_in_calendar}
use Rattle.journal_lines.proofs.DateLemmas.{calendar_test}
use Rattle.treasury_notes.proofs.open_year.has_day_after.Goals as goal

pub returns : goal.returns
returns c =
    calendar_test c.day_after.result c.is_day_number.result c.is_day_number.ensures
    ∙ ap is_in_calendar c.day_after.ensures
