use Rattle.std.proofs.Common.{rules, subst}
use Rattle.treasury_state.specs.Federation.{Federation}
use Rattle.treasury_store.proofs.OwnRefusalLemmas.{refused_unfailed}
use Rattle.treasury_store.proofs.TreasuryLemmas.{performs_decided, SurvivesChange, decided_joins}
use Rattle.treasury_store.proofs.treasury.Treasury.settle.Goals as goal

pub write-requires-clause-good : goal.write-requires-clause-good
write-requires-clause-good g c =
    decided_joins c.args.now c.args.command.now c.in-Ok.answer c.in-Ok.delta c.in-Ok.ensures.decides.1
    c.in-Ok.ensures.good

pub returns-in-Ok-write-clause-performs : goal.returns-in-Ok-write-clause-performs
returns-in-Ok-write-clause-performs g c of unfailed =
    performs_decided g.S.Store _ c.args.now c.args.command.now _ _ (search rules) c.in-Ok.ensures.joined
    (c.in-Ok-write.ensures.ok of) c.in-Ok-write.ensures.ok_held

pub returns-in-Err-clause-fails : goal.returns-in-Err-clause-fails
returns-in-Err-clause-fails g c unfailed =
    refused_unfailed c.args.now c.args.command.now c.in-Err.refusal _ (search rules) c.in-Err.ensures.decides

pub returns-in-Ok-write-clause-crash : goal.returns-in-Ok-write-clause-crash
returns-in-Ok-write-clause-crash g c =
    subst (λ (s : Federation). SurvivesChange g.S.Store c.args.self.now.store c.write.new.self.store.conn c.args.now s)
    c.in-Ok.ensures.joined c.write.ensures.crash

pub returns-in-Err-write-clause-crash : goal.returns-in-Err-write-clause-crash
returns-in-Err-write-clause-crash g c =
    subst (λ (s : Federation). SurvivesChange g.S.Store c.args.self.now.store c.write.new.self.store.conn c.args.now s)
    c.in-Ok.ensures.joined c.write.ensures.crash
