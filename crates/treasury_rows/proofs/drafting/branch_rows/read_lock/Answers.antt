use Rattle.std.proofs.Common.{◌∙◌, sym, rules}
use Rattle.treasury_state.proofs.BranchRowLemmas.{same_day}
use Rattle.treasury_rows.proofs.BranchRowLemmas.{lock_only}
use Rattle.treasury_rows.proofs.drafting.branch_rows.read_lock.Goals as goal

pub returns-in_ok-day-in-Some : goal.returns-in_ok-day-in-Some
returns-in_ok-day-in-Some c = lock_only c.args.locked c.in-Some.value c.in_ok-day-in-Some.day c.in-Some.is
    (search rules) (λ d e. same_day d c.in_ok-day-in-Some.day (e ∙ sym c.in_ok-day-in-Some.ensures.day))
