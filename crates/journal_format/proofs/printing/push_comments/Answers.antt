use Rattle.money_core.proofs.PrintedLemmas.{on_err}
use Rattle.money_core.proofs.Appends.{kept_behind}
use Rattle.journal_format.proofs.printing.push_comments.Goals as goal

pub returns-in_err-push_comment-clause-err : goal.returns-in_err-push_comment-clause-err
returns-in_err-push_comment-clause-err c =
    on_err _ _ (kept_behind c.args.out.now.items c.comments.out.items c.push_comment.new.out.items _
    c.comments.invariant c.in_err-push_comment.ensures.err)
