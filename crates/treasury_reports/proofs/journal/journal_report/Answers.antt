use Rattle.std.proofs.Common.{◌≡◌, ◌++◌, List, ℕ, OnOk, subst, sym}
use Rattle.treasury_state.specs.Federation.{records_of, txns_in}
use Rattle.treasury_reports.specs.JournalReport.{branch_journal, journal_rows}
use Rattle.treasury_reports.proofs.RowLemmas.{journal_lines}
use Rattle.treasury_reports.proofs.journal.journal_report.Goals as goal

pub returns-clause-ok : goal.returns-clause-ok
unfolding branch_journal journal_rows
returns-clause-ok g c =
    let f = c.args.state.now in
    let out = c.journal_report_in.new.out.items in
    subst (λ (t : List ℕ). OnOk c.journal_report_in.result (out ≡ c.args.out.now.items ++ t))
    (sym (journal_lines f.styles (txns_in (records_of f c.args.branch.now)))) c.journal_report_in.ensures.ok
