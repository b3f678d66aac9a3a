use Rattle.std.proofs.Common.{◌≡◌, ◌∙◌, ◌++◌, [], ap, subst, refl, OnOk, rules, w64}
use Rattle.std.proofs.lemmas.Int.{to_z-of_z}
use Rattle.money_core.specs.AmountText.{printed_in}
use Rattle.treasury_reports.specs.RegisterReport.{register_cells}
use Rattle.treasury_reports.specs.declared.rows.Column.TheVariants.{Plain, Number, Amount, End, Note}
use Rattle.treasury_reports.specs.Rows.{Row}
use Rattle.treasury_reports.specs.Written.{row_in}
use Rattle.treasury_reports.proofs.RowLemmas.{cell_then}
use Rattle.treasury_reports.proofs.register.push_listed.Goals as goal

pub returns-clause-ok : goal.returns-clause-ok
unfolding register_cells
returns-clause-ok c =
    let printed = printed_in c.args.styles.now c.args.one.now.leg.unit in
    let day = c.as_slice.ensures.value ∙ c.in_ok-day.ensures.ok in
    let number = c.as_bytes.ensures.value ∙ c.in_ok-number.ensures.ok in
    let amount = c.as_slice-2.ensures.value ∙ c.in_ok-amount.ensures.ok
    ∙ ap printed (to_z-of_z w64 c.args.one.now.leg.qty (search rules)) in
    let total = c.as_slice-3.ensures.value ∙ c.in_ok-total.ensures.ok
    ∙ ap printed (to_z-of_z w64 c.args.sum (search rules)) in
    let account = c.as_bytes-2.ensures.value ∙ c.as_str.ensures in
    let description = c.as_bytes-3.ensures.value ∙ c.as_str-2.ensures in
    let cells = cell_then Plain _ _ _ _ day (cell_then Number _ _ _ _ number (cell_then Amount _ _ _ _ amount
    (cell_then Amount _ _ _ _ total (cell_then End _ _ _ _ account (cell_then Note _ _ [] [] description refl))))) in
    subst (λ (row : Row). OnOk c.push_row.result
    (c.push_row.new.out.items ≡ c.args.rows.now.items ++ row_in c.args.layout row)) cells c.push_row.ensures.ok
