use Rattle.std.proofs.Common.{◌≡◌, ◌+◌, ◌++◌, ◌<◌, ◌∙◌, ℕ, length, arith, add-one, ap, List}
use Rattle.std.specs.List.{flat_map}
use Rattle.money_core.specs.declared.style.Style.{Style}
use Rattle.money_core.specs.declared.unit.Unit.{Unit as Commodity}
use Rattle.journal_format.proofs.PrintingLemmas.{part_next}
use Rattle.treasury_reports.specs.BalanceReport.{first_units}
use Rattle.treasury_reports.specs.TransitReport.{transit_row}
use Rattle.treasury_reports.specs.Written.{rows_in}
use Rattle.treasury_reports.proofs.UnitLemmas.{below_from_found, above_from_missed}
use Rattle.treasury_reports.proofs.RowLemmas.{joined_rows}
use Rattle.treasury_reports.proofs.transit.push_way.Goals as goal

pub units-preserved : goal.units-preserved
units-preserved g c =
    let styles = c.styles-styles.result.now in
    let known : c.units.number < length styles =
    below_from_found styles c.units.number c.style.result c.style.ensures c.units-test.ensures in
    let rows = transit_row c.args.state.now c.args.day c.args.from.now c.args.to.now in
    record {
      same = c.units.invariant.same;
      few = c.units.invariant.few;
      declared = omega arith;
      rows = part_next (λ (unit : Commodity). rows_in c.args.layout (rows unit)) c.args.rows.now.items
          c.units.rows.items c.push_unit.new.rows.items (first_units c.units.number)
          (first_units (c.units.number + 1)) (record { 0 = c.units.number })
          c.units.invariant.rows c.in_ok-push_unit.ensures.ok (ap first_units (add-one c.units.number));
    }

pub returns-clause-ok : goal.returns-clause-ok
returns-clause-ok g c =
    let f = c.args.state.now in
    let styles = c.styles-styles.result.now in
    let old = c.args.rows.now.items in
    let layout = c.args.layout in
    let past = above_from_missed styles c.units.number c.style.result c.style.ensures c.units-test.ensures in
    let all : c.units.number ≡ length styles = omega (arith, past, c.units.invariant.declared) in
    let rows = transit_row f c.args.day c.args.from.now c.args.to.now in
    c.units.invariant.rows
    ∙ ap (λ (n : ℕ). old ++ flat_map (λ (unit : Commodity). rows_in layout (rows unit)) (first_units n))
    (all ∙ ap (λ (xs : List Style). length xs) c.styles-styles.ensures)
    ∙ ap (λ (l : List ℕ). old ++ l) (joined_rows layout rows (first_units (length f.styles)))
