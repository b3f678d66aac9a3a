use Rattle.std.proofs.Common.{arith}
use Rattle.std.proofs.lemmas.Int.{ints}
use Rattle.journal_lines.proofs.DateLemmas.{day_number_bounds, day_number_from}
use Rattle.journal_lines.proofs.date.is_day_number.Goals as goal

pub returns-then-day-geminus719162 : goal.returns-then-day-geminus719162
returns-then-day-geminus719162 c = (
  λ high. day_number_from c.args.day (omega (arith, ints, c.if-day-geminus719162.true)) (omega (arith, ints, high)),
  λ is. let bounds = day_number_bounds c.args.day is in grind (arith, ints, bounds.0, bounds.1),
)

pub returns-else-day-geminus719162 : goal.returns-else-day-geminus719162
returns-else-day-geminus719162 c = (
  λ high. day_number_from c.args.day (omega (arith, ints, high))
      (omega (arith, ints, high, c.if-day-geminus719162.false)),
  λ is. let bounds = day_number_bounds c.args.day is in grind (arith, ints, bounds.0, bounds.1),
)
