use Rattle.std.proofs.Common.{◌∙◌, ap, sym, nat_eq}
use Rattle.std.specs.List.{list_any}
use Rattle.treasury_state.specs.declared.transfer.Transfer.{Transfer}
use Rattle.treasury_reports.specs.TransitReport.{is_way, open_cells}
use Rattle.treasury_reports.proofs.FilterLemmas.{any-filter}
use Rattle.treasury_reports.proofs.RowLemmas.{row_if, no_row_if}
use Rattle.treasury_reports.proofs.transit.push_unit.Goals as goal

pub returns-then-has_unit-clause-ok : goal.returns-then-has_unit-clause-ok
returns-then-has_unit-clause-ok g c =
    let f = c.args.state.now in
    let there = sym (any-filter (is_way c.args.from.now c.args.to.now c.args.day)
    (λ (t : Transfer). nat_eq t.unit.0 c.args.unit.0) f.transfers) ∙ ap
    (list_any (λ (t : Transfer). nat_eq t.unit.0 c.args.unit.0)) (sym c.requires.sent) ∙ sym c.has_unit.ensures ∙
    c.if-has_unit.true in
    row_if c.args.layout c.push_open.result c.args.rows.now.items c.push_open.new.rows.items _
    (open_cells f c.args.day c.args.from.now c.args.to.now c.args.unit) there c.push_open.ensures.ok

pub returns-else-has_unit-clause-ok : goal.returns-else-has_unit-clause-ok
returns-else-has_unit-clause-ok g c =
    let f = c.args.state.now in
    let there = sym (any-filter (is_way c.args.from.now c.args.to.now c.args.day)
    (λ (t : Transfer). nat_eq t.unit.0 c.args.unit.0) f.transfers) ∙ ap
    (list_any (λ (t : Transfer). nat_eq t.unit.0 c.args.unit.0)) (sym c.requires.sent) ∙ sym c.has_unit.ensures ∙
    c.if-has_unit.false in
    no_row_if c.args.layout c.args.rows.now.items _
    (open_cells f c.args.day c.args.from.now c.args.to.now c.args.unit) there
