use Rattle.std.proofs.Common.{drop}
use Rattle.std.specs.Prelude.{◌↔◌}
use Rattle.std.specs.List.{AllByRecursion}
use Rattle.journal_lines.specs.Date.{IsDayNumber}
use Rattle.treasury_state.specs.declared.record.Record.{Record}
use Rattle.treasury_state.specs.Good.{IsWithinLock}
use Rattle.treasury_rows.proofs.judging.closings.are_closings.Given as goal

abbrev pub invariant-loop-row : goal.invariant-loop-row
invariant-loop-row l = record {
  closings : AllByRecursion (IsWithinLock l.lock) (drop l.row-index l.rows)
      ↔ AllByRecursion (IsWithinLock l.lock) l.rows;
  days : AllByRecursion (λ (r : Record). IsDayNumber r.entry.day) (drop l.row-index l.rows);
}
