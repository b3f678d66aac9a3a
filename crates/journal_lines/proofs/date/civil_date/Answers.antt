use Rattle.std.proofs.Common.{rules, arith, ◌≡◌}
use Rattle.std.proofs.lemmas.Int.{ints}
use Rattle.jiff_core.specs.Date.{epoch_day}
use Rattle.jiff_core.proofs.DateLemmas.{civil}
use Rattle.jiff_core.proofs.SignedLemmas.{signed_arith}
use Rattle.journal_lines.proofs.DateLemmas.{day_number_bounds, year_is_positive}
use Rattle.journal_lines.proofs.date.civil_date.Goals as goal

pub unreachable-requires : goal.unreachable-requires
unreachable-requires c =
    let bounds = day_number_bounds c.args.day c.requires in
    let fails = c.in-Err.ensures.succeeds.1 (omega (arith, signed_arith, ints, bounds, c.from.ensures)) in
    cc

pub returns-clause-year : goal.returns-clause-year
returns-clause-year c =
    let number : epoch_day c.in-Ok.date ≡ c.args.day.0 = search rules in
    year_is_positive c.in-Ok.date.year c.in-Ok.date.month c.in-Ok.date.day c.args.day (civil c.in-Ok.date) number
    c.requires
