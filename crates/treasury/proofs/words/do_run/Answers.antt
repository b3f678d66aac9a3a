use Rattle.treasury.proofs.UntakenLemmas.{cut_off_status, done_status}
use Rattle.treasury.proofs.words.do_run.Goals as goal

pub returns-then-is_explained-clause-done : goal.returns-then-is_explained-clause-done
returns-then-is_explained-clause-done g c =
    λ zero. done_status c.run.result _ _ c.status.ensures c.run.ensures.done zero

pub returns-then-is_explained-clause-cut_off : goal.returns-then-is_explained-clause-cut_off
returns-then-is_explained-clause-cut_off g c =
    λ other. cut_off_status c.run.result _ _ c.status.ensures c.run.ensures.cut_off other

pub returns-else-is_explained-clause-done : goal.returns-else-is_explained-clause-done
returns-else-is_explained-clause-done g c =
    λ zero. done_status c.run-else-is_explained.result _ _ c.status-else-is_explained.ensures
    c.run-else-is_explained.ensures.done zero

pub returns-else-is_explained-clause-cut_off : goal.returns-else-is_explained-clause-cut_off
returns-else-is_explained-clause-cut_off g c =
    λ other. cut_off_status c.run-else-is_explained.result _ _ c.status-else-is_explained.ensures
    c.run-else-is_explained.ensures.cut_off other
