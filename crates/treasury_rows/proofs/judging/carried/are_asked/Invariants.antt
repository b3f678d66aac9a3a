use Rattle.std.proofs.Common.{◌≡◌, true, drop}
use Rattle.std.specs.Prelude.{◌↔◌}
use Rattle.std.specs.List.{AllByRecursion}
use Rattle.treasury_state.specs.declared.record.Record.{Record}
use Rattle.treasury_state.specs.Mark.{is_held, is_of_transfer}
use Rattle.treasury_rows.proofs.judging.carried.are_asked.Given as goal

abbrev pub invariant-loop-row : goal.invariant-loop-row
invariant-loop-row l =
    AllByRecursion (λ (r : Record). is_of_transfer r ≡ true → is_held l.rows r.mark ≡ true) (drop l.row-index l.records)
    ↔ AllByRecursion (λ (r : Record). is_of_transfer r ≡ true → is_held l.rows r.mark ≡ true) l.records
