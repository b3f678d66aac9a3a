use Rattle.std.proofs.Common.{◌∙◌}
use Rattle.treasury_reports.specs.TransitReport.{transit_rows}
use Rattle.treasury_reports.proofs.RowLemmas.{appended_rows}
use Rattle.treasury_reports.proofs.transit.transit_report_in.Goals as goal

pub returns-in-Ok-clause-ok : goal.returns-in-Ok-clause-ok
returns-in-Ok-clause-ok g c =
    appended_rows c.args.layout c.push_written.result _ _ _ (transit_rows c.args.state.now c.args.day)
    c.in-Ok.ensures.ok c.push_written.ensures.ok
