use Rattle.treasury_core.specs.Choice.{choice_comments}
use Rattle.treasury_core.proofs.ChoiceLemmas.{tested_texts}
use Rattle.treasury_core.proofs.close.is_asked_again.Goals as goal

pub returns-clause-value : goal.returns-clause-value
returns-clause-value c = tested_texts c.args.row.now.txn.comments c.in_ok-comments.comments
    (choice_comments c.args.choice.now) c.is_same.result c.is_same.ensures c.in_ok-comments.ensures.value
