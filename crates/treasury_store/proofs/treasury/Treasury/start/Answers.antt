use Rattle.std.proofs.Common.{subst}
use Rattle.treasury_state.specs.Federation.{Federation}
use Rattle.treasury_store.specs.Store.{IsOf}
use Rattle.treasury_store.proofs.TreasuryLemmas.{fails_as}
use Rattle.treasury_store.proofs.treasury.Treasury.start.Goals as goal

pub returns-in-Ok-clause-of : goal.returns-in-Ok-clause-of
returns-in-Ok-clause-of g c clean f good are =
    let loaded = c.in-Ok.ensures.ok f good are in
    record {
      store = subst (λ (x : Federation). IsOf g.S.Store c.load.new.self x) (loaded.1 clean) loaded.0;
      held = loaded.1 clean;
    }

pub returns-in-Err-clause-causes : goal.returns-in-Err-clause-causes
returns-in-Err-clause-causes g c unfailed = fails_as c.in-Err.cause _ (c.in-Err.ensures.answers unfailed)

pub returns-in-Ok-clause-shown : goal.returns-in-Ok-clause-shown
returns-in-Ok-clause-shown g c clean ours = (c.in-Ok.ensures.good, c.in-Ok.ensures.shown clean ours)

pub returns-in-Err-clause-unchanged : goal.returns-in-Err-clause-unchanged
returns-in-Err-clause-unchanged g c = c.load.ensures.unchanged

pub returns-in-Ok-clause-left : goal.returns-in-Ok-clause-left
returns-in-Ok-clause-left g c = c.load.ensures.left

pub returns-in-Err-clause-left : goal.returns-in-Err-clause-left
returns-in-Err-clause-left g c = c.load.ensures.left

pub returns-in-Ok-clause-kept : goal.returns-in-Ok-clause-kept
returns-in-Ok-clause-kept g c clean = c.load.ensures.unchanged clean (c.in-Ok.ensures.still_open clean)
