use Rattle.sqlite.specs.Held.{state}
use Rattle.treasury_tables.proofs.InsideLemmas.{keeps_commit, still_inside, ran_on_ok}
use Rattle.treasury_tables.proofs.UpgradeLemmas.{second_sets_version}
use Rattle.treasury_tables.proofs.upgrading.set_version.Goals as goal

pub returns-clause-kept : goal.returns-clause-kept
returns-clause-kept g c clean =
    keeps_commit g.S.Store _ _ _ _ _ _ c.execute.ensures.ended (c.execute.ensures.runs clean)

pub returns-clause-inside : goal.returns-clause-inside
returns-clause-inside g c clean =
    still_inside g.S.Store _ _ _ _ _ _ c.execute.ensures.ended (c.execute.ensures.runs clean)

pub returns-clause-sets : goal.returns-clause-sets
returns-clause-sets g c clean =
    let old = state g.S.Store c.args.tx.now.conn.now in
    let new = state g.S.Store c.execute.new.self.conn.now in
    ran_on_ok g.S.Store _ _ _ _ _ _ c.execute.ensures.ended (c.execute.ensures.runs clean) _
    (λ count h has version table. second_sets_version old new count has version table h)
