use Rattle.std.proofs.Common.{subst}
use Rattle.treasury_state.specs.Joined.{joined}
use Rattle.treasury_store.specs.Treasury.{Treasury}
use Rattle.treasury_store.proofs.TreasuryLemmas.{SurvivesChange, survives_write}
use Rattle.treasury_store.proofs.treasury.Treasury.write.Goals as goal

pub returns-in-Ok-clause-crash : goal.returns-in-Ok-clause-crash
returns-in-Ok-clause-crash g c =
    subst (λ (t : Treasury _). SurvivesChange g.S.Store t.store c.commit.new.self.conn c.args.now
    (joined c.args.now c.args.delta)) c.self.view_is
    (survives_write g.S.Store c.self.inside.store c.commit.new.self.conn c.args.now c.args.delta c.requires.good
    c.commit.ensures.crash)

pub returns-in-Err-clause-crash : goal.returns-in-Err-clause-crash
returns-in-Err-clause-crash g c =
    subst (λ (t : Treasury _). SurvivesChange g.S.Store t.store c.commit.new.self.conn c.args.now
    (joined c.args.now c.args.delta)) c.self.view_is
    (survives_write g.S.Store c.self.inside.store c.commit.new.self.conn c.args.now c.args.delta c.requires.good
    c.commit.ensures.crash)
