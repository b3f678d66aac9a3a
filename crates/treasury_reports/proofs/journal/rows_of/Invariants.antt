use Rattle.std.proofs.Common.{◌≡◌, take}
use Rattle.std.specs.List.{flat_map}
use Rattle.treasury_state.specs.declared.record.Record.{Record}
use Rattle.treasury_reports.specs.JournalReport.{txn_cells}
use Rattle.treasury_reports.specs.Written.{row_in}
use Rattle.treasury_reports.proofs.journal.rows_of.Given as goal

abbrev pub invariant-records : goal.invariant-records
invariant-records l = l.rows.items
    ≡ flat_map (λ (r : Record). row_in l.layout (txn_cells l.styles r.txn)) (take l.row-index l.records)
