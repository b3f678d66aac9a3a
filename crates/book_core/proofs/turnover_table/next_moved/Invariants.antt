use Rattle.std.proofs.Common.{◌≡◌, ◌<◌}
use Rattle.money_core.specs.declared.unit.Unit.{Unit as Commodity}
use Rattle.book_core.specs.DayRows.{moved_at}
use Rattle.book_core.proofs.turnover_table.next_moved.Given as goal

abbrev pub invariant-loop-at : goal.invariant-loop-at
invariant-loop-at l = (v : Commodity) → l.fn.unit.0 < v.0 → v.0 < l.at → moved_at l.table v ≡ 0
