use Rattle.std.proofs.Common.{ℕ, List, subst}
use Rattle.treasury_client.specs.Reply.{SaysToReport}
use Rattle.treasury.proofs.words.at.hear_report_from.Goals as goal

pub returns-in-Ok-hear_report-clause-heard : goal.returns-in-Ok-hear_report-clause-heard
returns-in-Ok-hear_report-clause-heard g c =
    let heard = c.in-Ok-hear_report.heard in (
      c.in-Ok.came.items,
      c.in-Ok.ensures.came,
      subst (λ (came : List ℕ). SaysToReport came heard.answer.items heard.is_refused) c.as_slice.ensures.value
          c.in-Ok-hear_report.ensures.said,
    )
