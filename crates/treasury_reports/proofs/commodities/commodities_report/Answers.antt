use Rattle.std.proofs.Common.{◌∙◌, ap}
use Rattle.std.specs.List.{flat_map}
use Rattle.money_core.specs.declared.style.Style.{Style}
use Rattle.treasury_reports.specs.CommoditiesReport.{sample_cells, commodities_rows}
use Rattle.treasury_reports.specs.Written.{row_in}
use Rattle.treasury_reports.proofs.RowLemmas.{appended_rows, mapped_rows}
use Rattle.treasury_reports.proofs.commodities.commodities_report.Goals as goal

pub returns-in-Ok-clause-ok : goal.returns-in-Ok-clause-ok
returns-in-Ok-clause-ok g c =
    let f = c.args.state.now in
    let layout = c.args.layout in
    appended_rows layout c.push_written.result _ _ _ (commodities_rows f)
    (c.in-Ok.ensures.ok
    ∙ ap (flat_map (λ (s : Style). row_in layout (sample_cells s))) c.styles.ensures
    ∙ mapped_rows layout sample_cells f.styles)
    c.push_written.ensures.ok
