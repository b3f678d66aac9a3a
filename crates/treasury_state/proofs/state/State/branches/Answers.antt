use Rattle.treasury_state.proofs.KeepingLemmas.{ledgers_kept}
use Rattle.treasury_state.proofs.state.State.branches.Goals as goal

pub returns-clause-kept : goal.returns-clause-kept
returns-clause-kept g c = ledgers_kept g.L.Ledger.book _ _ c.as_slice.ensures.value c.self.invariant.0.kept
