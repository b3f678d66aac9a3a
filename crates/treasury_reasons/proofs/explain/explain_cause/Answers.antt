use Rattle.std.proofs.Common.{◌∙◌, sym}
use Rattle.std.proofs.lemmas.Result.{IfOk-weaker}
use Rattle.treasury_reasons.proofs.ToldLemmas.{told_of_none}
use Rattle.treasury_reasons.proofs.explain.explain_cause.Goals as goal

pub returns-else-is_of_transaction : goal.returns-else-is_of_transaction
returns-else-is_of_transaction g c =
    IfOk-weaker c.explain_plain-else-is_of_transaction.result _ _
    (λ said e. told_of_none c.args.state.now c.args.request.now c.args.source.now c.args.cause said.items
    (sym c.is_of_transaction.ensures ∙ c.if-is_of_transaction.false) e)
    c.explain_plain-else-is_of_transaction.ensures
