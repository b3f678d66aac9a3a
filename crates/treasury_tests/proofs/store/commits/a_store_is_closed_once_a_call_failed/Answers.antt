use Rattle.std.proofs.Common.{rules}
use Rattle.treasury_store.proofs.TreasuryLemmas.{decided_joins}
use Rattle.treasury_tests.proofs.store.commits.a_store_is_closed_once_a_call_failed.Goals as goal

pub commit-requires : goal.commit-requires
commit-requires g c = (
  c.branch-now.result,
  c.branch-now.ensures.numbers,
  decided_joins c.branch-now.result _ c.in-Ok.field-0-0 c.in-Ok.delta c.in-Ok.ensures.decides.1
      c.in-Ok.ensures.good,
)

pub commit-requires-in-Ok : goal.commit-requires-in-Ok
commit-requires-in-Ok g c = (
  c.branch-now.result,
  search rules,
  decided_joins c.branch-now.result _ c.in-Ok.field-0-0 c.in-Ok.delta c.in-Ok.ensures.decides.1
      c.in-Ok.ensures.good,
)
