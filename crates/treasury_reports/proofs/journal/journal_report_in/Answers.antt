use Rattle.std.proofs.Common.{◌∙◌, List, ap}
use Rattle.std.specs.List.{flat_map}
use Rattle.money_core.specs.declared.style.Style.{Style}
use Rattle.journal_format.specs.declared.txn.Txn.{Txn}
use Rattle.treasury_state.specs.declared.record.Record.{Record}
use Rattle.treasury_state.specs.Federation.{records_of, txns_in}
use Rattle.treasury_state.proofs.OpenLemmas.{good_records}
use Rattle.treasury_reports.specs.JournalReport.{txn_cells, journal_rows}
use Rattle.treasury_reports.specs.Written.{row_in}
use Rattle.treasury_reports.proofs.ListLemmas.{flat_map-map}
use Rattle.treasury_reports.proofs.RowLemmas.{appended_rows, mapped_rows}
use Rattle.treasury_reports.proofs.journal.journal_report_in.Goals as goal

pub rows_of-requires : goal.rows_of-requires
rows_of-requires g c =
    rw (c.styles.ensures, c.in-Some.ensures.1) (good_records c.args.state.now c.args.branch.now c.is_good.ensures)

pub returns-in-Ok-clause-ok : goal.returns-in-Ok-clause-ok
unfolding journal_rows
returns-in-Ok-clause-ok g c =
    let f = c.args.state.now in
    let name = c.args.branch.now in
    let layout = c.args.layout in
    let written = λ (styles : List Style) (rs : List Record).
    flat_map (λ (r : Record). row_in layout (txn_cells styles r.txn)) rs in
    appended_rows layout c.push_written.result _ _ _ (journal_rows f name)
    (c.in-Ok.ensures.ok
    ∙ ap (λ (styles : List Style). written styles c.in-Some.records.now) c.styles.ensures
    ∙ ap (λ (rs : List Record). written f.styles rs) c.in-Some.ensures.1
    ∙ flat_map-map (λ (r : Record). r.txn) (λ (t : Txn). row_in layout (txn_cells f.styles t)) (records_of f name)
    ∙ mapped_rows layout (txn_cells f.styles) (txns_in (records_of f name)))
    c.push_written.ensures.ok
