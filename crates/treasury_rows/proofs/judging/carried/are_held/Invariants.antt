use Rattle.std.proofs.Common.{◌≡◌, drop, Some}
use Rattle.std.specs.Prelude.{◌↔◌}
use Rattle.std.specs.List.{AllByRecursion}
use Rattle.treasury_state.specs.declared.record.Record.{Record}
use Rattle.treasury_state.specs.Mark.{held}
use Rattle.treasury_rows.proofs.judging.carried.are_held.Given as goal

abbrev pub invariant-loop-row : goal.invariant-loop-row
invariant-loop-row l =
    AllByRecursion (λ (r : Record). held l.records r.mark ≡ Some r) (drop l.row-index l.rows)
    ↔ AllByRecursion (λ (r : Record). held l.records r.mark ≡ Some r) l.rows
