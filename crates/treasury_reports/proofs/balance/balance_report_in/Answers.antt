use Rattle.std.proofs.Common.{◌∙◌, List, ap}
use Rattle.money_core.specs.declared.style.Style.{Style}
use Rattle.book_core.specs.declared.entry.Entry.{Entry}
use Rattle.treasury_reports.specs.BalanceReport.{book_rows, balance_rows}
use Rattle.treasury_reports.specs.Written.{rows_in}
use Rattle.treasury_reports.proofs.RowLemmas.{appended_rows}
use Rattle.treasury_reports.proofs.balance.balance_report_in.Goals as goal

pub returns-in-Ok-clause-ok : goal.returns-in-Ok-clause-ok
returns-in-Ok-clause-ok g c =
    let f = c.args.state.now in
    let day = c.args.day in
    let layout = c.args.layout in
    let book = g.L.Ledger.book c.in-Some.ledger.now in
    appended_rows layout c.push_written.result _ _ _ (balance_rows f c.args.branch.now day)
    (c.in-Ok.ensures.ok
    ∙ ap (λ (styles : List Style). rows_in layout (book_rows styles book day)) c.styles.ensures
    ∙ ap (λ (es : List Entry). rows_in layout (book_rows f.styles es day)) c.in-Some.ensures.found.1)
    c.push_written.ensures.ok
