use Rattle.std.proofs.Common.{◌<◌, ◌≤◌, ◌∙◌, length, arith, ap}
use Rattle.std.specs.List.{flat_map}
use Rattle.std.proofs.lemmas.List.{take_all}
use Rattle.money_core.specs.declared.style.Style.{Style}
use Rattle.treasury_reports.specs.CommoditiesReport.{sample_cells}
use Rattle.treasury_reports.specs.Written.{row_in}
use Rattle.treasury_reports.proofs.ListLemmas.{next_line}
use Rattle.treasury_reports.proofs.UnitLemmas.{below_from_found, above_from_missed}
use Rattle.treasury_reports.proofs.commodities.rows_of.Goals as goal

pub push_commodity-requires : goal.push_commodity-requires
push_commodity-requires c =
    below_from_found c.args.styles.now c.units.number c.style.result c.style.ensures c.units-test.ensures

pub units-preserved : goal.units-preserved
units-preserved c =
    let styles = c.args.styles.now in
    let below : c.units.number < length styles =
    below_from_found styles c.units.number c.style.result c.style.ensures c.units-test.ensures in
    record {
      few = c.units.invariant.few;
      declared = omega (arith, below);
      rows = next_line (λ (s : Style). row_in c.args.layout (sample_cells s)) styles c.units.number c.units.rows.items
          c.push_commodity.new.rows.items
          c.units.invariant.rows (λ s e. c.in_ok-push_commodity.ensures.ok s e) below;
    }

pub returns-clause-ok : goal.returns-clause-ok
returns-clause-ok c =
    let styles = c.args.styles.now in
    let past : length styles ≤ c.units.number =
    above_from_missed styles c.units.number c.style.result c.style.ensures c.units-test.ensures in
    c.units.invariant.rows
    ∙ ap (flat_map (λ (s : Style). row_in c.args.layout (sample_cells s))) (take_all c.units.number styles past)
