use Rattle.std.proofs.lemmas.Result.{on_ok_weaker}
use Rattle.treasury_core.proofs.CountLemmas.{counted_next}
use Rattle.treasury_core.proofs.file.mark_in_file.Goals as goal

pub returns-in_ok-text-in-None-clause-counted : goal.returns-in_ok-text-in-None-clause-counted
returns-in_ok-text-in-None-clause-counted c = λ before h.
    on_ok_weaker c.next_mark.result
    (λ next. counted_next c.args.styles.now c.args.txn.now before c.args.counts.now c.next_mark.new.counts
    c.in_ok-text-in-None.text c.in-None.is c.in_ok-text-in-None.ensures.value h next)
    c.next_mark.ensures.counted
