use Rattle.std.proofs.Common.{◌≡◌, take}
use Rattle.std.specs.List.{flat_map}
use Rattle.treasury_state.specs.Seen.{branch_of}
use Rattle.treasury_reports.specs.BranchesReport.{branch_cells}
use Rattle.treasury_reports.specs.Written.{row_in}
use Rattle.treasury_reports.proofs.branches.rows_of.Given as goal

abbrev pub invariant-branches : goal.invariant-branches
invariant-branches g l = l.rows.items
    ≡ flat_map (λ branch. row_in l.layout (branch_cells (branch_of branch))) (take l.branch-index l.branches)
