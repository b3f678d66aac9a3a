use Rattle.std.proofs.Common.{◌≡◌, ◌∙◌, ◌++◌, [], ap, subst, refl, OnOk, rules, w64}
use Rattle.std.proofs.lemmas.Int.{to_z-of_z}
use Rattle.money_core.specs.AmountText.{printed_in}
use Rattle.treasury_reports.specs.TransfersReport.{transfer_cells}
use Rattle.treasury_reports.specs.declared.rows.Column.TheVariants.{Plain, Amount, From, End}
use Rattle.treasury_reports.specs.Rows.{Row}
use Rattle.treasury_reports.specs.Written.{row_in}
use Rattle.treasury_reports.proofs.ListLemmas.{open_declared}
use Rattle.treasury_reports.proofs.RowLemmas.{cell_then}
use Rattle.treasury_reports.proofs.transfers.push_transfer.Goals as goal

pub amount_cell-requires-2 : goal.amount_cell-requires-2
amount_cell-requires-2 c =
    let back = to_z-of_z w64 c.open_of.result (search rules) in
    rw (back, c.open_of.ensures) (open_declared c.args.styles.now c.args.transfer.now c.args.day c.requires)

pub returns-clause-ok : goal.returns-clause-ok
unfolding transfer_cells
returns-clause-ok c =
    let t = c.args.transfer.now in
    let printed = printed_in c.args.styles.now t.unit in
    let sent = c.as_slice.ensures.value ∙ c.in_ok-sent.ensures.ok in
    let amount = c.as_slice-2.ensures.value ∙ c.in_ok-amount.ensures.ok
    ∙ ap printed (to_z-of_z w64 t.qty (search rules)) in
    let left = c.as_slice-3.ensures.value ∙ c.in_ok-open.ensures.ok
    ∙ ap printed (to_z-of_z w64 c.open_of.result (search rules) ∙ c.open_of.ensures) in
    let from = c.as_bytes.ensures.value ∙ c.as_str.ensures in
    let to = c.as_bytes-2.ensures.value ∙ c.as_str-2.ensures in
    let id = c.as_bytes-3.ensures.value ∙ c.as_str-3.ensures in
    let cells = cell_then Plain _ _ _ _ sent (cell_then Amount _ _ _ _ amount (cell_then Amount _ _ _ _ left
    (cell_then From _ _ _ _ from (cell_then Plain _ _ _ _ to (cell_then End _ _ [] [] id refl))))) in
    subst (λ (row : Row). OnOk c.push_row.result
    (c.push_row.new.out.items ≡ c.args.rows.now.items ++ row_in c.args.layout row)) cells c.push_row.ensures.ok
