use Rattle.money_core.proofs.PrintedLemmas.{on_err}
use Rattle.money_core.proofs.Appends.{kept_behind}
use Rattle.journal_format.proofs.printing.push_journal.Goals as goal

pub returns-in_err-push_txn-clause-err : goal.returns-in_err-push_txn-clause-err
returns-in_err-push_txn-clause-err c =
    on_err _ _ (kept_behind c.args.out.now.items c.txns.out.items c.push_txn.new.out.items _ c.txns.invariant
    c.in_err-push_txn.ensures.err)
