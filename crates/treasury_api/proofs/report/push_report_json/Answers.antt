use Rattle.std.proofs.Common.{◌≡◌, ◌∙◌, ◌++◌, List, ℕ, ap}
use Rattle.treasury_reports.specs.declared.rows.Layout.TheVariants.{Json}
use Rattle.treasury_reports.specs.Rows.{report_as}
use Rattle.treasury_api.specs.Report.{report_rows}
use Rattle.treasury_api.proofs.ObjectLemmas.{report_object}
use Rattle.treasury_api.proofs.report.push_report_json.Goals as goal

pub returns-in-Ok-push_pieces-clause-ok : goal.returns-in-Ok-push_pieces-clause-ok
returns-in-Ok-push_pieces-clause-ok g c =
    report_object c.args.state.now c.args.report.now c.args.out.now.items c.as_slice.result.now
    c.push_pieces.new.line.items
    (c.as_slice.ensures.value ∙ (c.in-Ok.ensures.ok ∙ ap (λ (t : List ℕ). t ++ report_as Json
    (report_rows c.args.state.now c.args.report.now)) c.new-rows.ensures.items))
    c.in-Ok-push_pieces.ensures.ok
