use Rattle.std.proofs.Common.{◌∙◌, [], List, ap, option_copied}
use Rattle.money_core.specs.declared.style.Style.{Style}
use Rattle.treasury_state.specs.declared.record.Record.{Record}
use Rattle.treasury_state.proofs.OpenLemmas.{good_records}
use Rattle.treasury_reports.specs.RegisterReport.{register_rows, summed_behind, rows_since, by_day, listed_from}
use Rattle.treasury_reports.specs.Written.{rows_in}
use Rattle.treasury_reports.proofs.RegisterLemmas.{room_of}
use Rattle.treasury_reports.proofs.RowLemmas.{appended_rows}
use Rattle.treasury_reports.proofs.register.register_report_in.Goals as goal

pub rows_in_order-requires-clause-good : goal.rows_in_order-requires-clause-good
rows_in_order-requires-clause-good g c =
    rw (c.styles.ensures, c.in-Some.ensures.1) (good_records c.args.state.now c.args.branch.now c.is_good.ensures)

pub rows_in_order-requires-clause-room : goal.rows_in_order-requires-clause-room
rows_in_order-requires-clause-room g c =
    rw c.in-Some.ensures.1 (room_of c.args.state.now c.args.branch.now c.is_good.ensures)

pub returns-in-Ok-clause-ok : goal.returns-in-Ok-clause-ok
unfolding register_rows
returns-in-Ok-clause-ok g c =
    let f = c.args.state.now in
    let account = c.args.account.now in
    let tag = option_copied c.args.tag in
    let layout = c.args.layout in
    let from = c.args.from in
    let listed = λ (rs : List Record). summed_behind [] (by_day (listed_from account tag 1 rs)) in
    appended_rows layout c.push_written.result _ _ _ (register_rows f c.args.branch.now account tag from)
    (c.in-Ok.ensures.ok
    ∙ ap (λ (ss : List Style). rows_in layout (rows_since ss from (listed c.in-Some.records.now))) c.styles.ensures
    ∙ ap (λ (rs : List Record). rows_in layout (rows_since f.styles from (listed rs))) c.in-Some.ensures.1)
    c.push_written.ensures.ok
