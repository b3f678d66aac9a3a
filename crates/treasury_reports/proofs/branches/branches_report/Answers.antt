use Rattle.std.proofs.Common.{◌∙◌, ap}
use Rattle.std.specs.List.{flat_map}
use Rattle.treasury_state.specs.Federation.{Branch}
use Rattle.treasury_state.specs.Seen.{branch_of}
use Rattle.treasury_reports.specs.BranchesReport.{branch_cells, branches_rows}
use Rattle.treasury_reports.specs.Written.{row_in}
use Rattle.treasury_reports.proofs.ListLemmas.{flat_map-map}
use Rattle.treasury_reports.proofs.RowLemmas.{appended_rows, mapped_rows}
use Rattle.treasury_reports.proofs.branches.branches_report.Goals as goal

pub returns-in-Ok-clause-ok : goal.returns-in-Ok-clause-ok
returns-in-Ok-clause-ok g c =
    let f = c.args.state.now in
    let layout = c.args.layout in
    let row = λ (b : Branch). row_in layout (branch_cells b) in
    appended_rows layout c.push_written.result _ _ _ (branches_rows f)
    (c.in-Ok.ensures.ok ∙ flat_map-map branch_of row c.branches.result.now
    ∙ ap (flat_map row) c.branches.ensures.value ∙ mapped_rows layout branch_cells f.branches)
    c.push_written.ensures.ok
