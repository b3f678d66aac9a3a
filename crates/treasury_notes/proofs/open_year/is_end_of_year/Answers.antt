use Rattle.std.proofs.Common.{◌++◌, ◌∙◌, ap, List, ℕ}
use Rattle.journal_lines.specs.Date.{printed_date}
use Rattle.treasury_notes.proofs.OpenYearLemmas.{by_its_text, without_text}
use Rattle.treasury_notes.proofs.open_year.is_end_of_year.Goals as goal

pub returns-in_ok-print_date : goal.returns-in_ok-print_date
returns-in_ok-print_date c =
    by_its_text c.args.day c.is_day_number.result c.ends_with.result c.as_slice.result.now c.is_day_number.ensures
    c.if-is_day_number.true
    (c.as_slice.ensures.value ∙ c.in_ok-print_date.ensures.ok
    ∙ ap (λ (xs : List ℕ). xs ++ printed_date c.args.day) c.new-text.ensures.items)
    c.ends_with.ensures.value

pub returns-else-is_day_number : goal.returns-else-is_day_number
returns-else-is_day_number c =
    without_text c.args.day c.is_day_number.result c.is_day_number.ensures c.if-is_day_number.false
