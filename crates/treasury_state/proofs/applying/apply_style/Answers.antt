use Rattle.treasury_state.proofs.BackLemmas.{declare_appends, declare_fails}
use Rattle.treasury_state.proofs.applying.apply_style.Goals as goal

pub returns-in-Ok-clause-ok : goal.returns-in-Ok-clause-ok
returns-in-Ok-clause-ok c =
    declare_appends c.args.styles.now c.declare.new.self c.args.style c.declare.result c.in-Ok.field-0
    c.requires c.declare.ensures.answer c.in-Ok.is c.declare.ensures.kept

pub returns-in-Err-clause-memory : goal.returns-in-Err-clause-memory
returns-in-Err-clause-memory c =
    declare_fails c.args.styles.now c.args.style c.declare.result c.in-Err.cause c.requires c.declare.ensures.answer
    c.in-Err.is
