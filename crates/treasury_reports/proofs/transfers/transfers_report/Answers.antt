use Rattle.std.proofs.Common.{◌∙◌, List, ap}
use Rattle.std.specs.List.{flat_map}
use Rattle.money_core.specs.declared.style.Style.{Style}
use Rattle.treasury_state.specs.declared.transfer.Transfer.{Transfer}
use Rattle.treasury_reports.specs.TransfersReport.{is_pending, pending, transfer_cells, transfers_rows}
use Rattle.treasury_reports.specs.Written.{row_in, pending_row_in}
use Rattle.treasury_reports.proofs.ListLemmas.{flat_map-filter, transfers_listable}
use Rattle.treasury_reports.proofs.RowLemmas.{appended_rows, mapped_rows}
use Rattle.treasury_reports.proofs.transfers.transfers_report.Goals as goal

pub rows_of-requires : goal.rows_of-requires
rows_of-requires g c =
    rw (c.styles.ensures, c.transfers.ensures) (transfers_listable c.args.state.now c.is_good.ensures)

pub returns-in-Ok-clause-ok : goal.returns-in-Ok-clause-ok
unfolding transfers_rows
returns-in-Ok-clause-ok g c =
    let f = c.args.state.now in
    let day = c.args.day in
    let layout = c.args.layout in
    let row = transfer_cells f.styles day in
    appended_rows layout c.push_written.result _ _ _ (transfers_rows f day)
    (c.in-Ok.ensures.ok
    ∙ ap (λ (styles : List Style). flat_map (pending_row_in layout styles day) c.transfers.result.now) c.styles.ensures
    ∙ ap (flat_map (pending_row_in layout f.styles day)) c.transfers.ensures
    ∙ flat_map-filter (is_pending day) (λ (t : Transfer). row_in layout (row t)) f.transfers
    ∙ mapped_rows layout row (pending day f.transfers))
    c.push_written.ensures.ok
