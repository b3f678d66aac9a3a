use Rattle.treasury_api.specs.Report.{report_members}
use Rattle.treasury_api.specs.JsonReply.{reply_members}
use Rattle.treasury_api.proofs.web.laws.replies_law.Goals as goal

pub returns-clause-reply : goal.returns-clause-reply
returns-clause-reply c styles reply told noted entries =
    c.json_law.ensures.whole (reply_members styles reply told noted entries)

pub returns-clause-report : goal.returns-clause-report
returns-clause-report c f report = c.json_law.ensures.whole (report_members f report)
