use Rattle.std.proofs.Common.{◌∙◌, sym}
use Rattle.treasury_client.proofs.HeardLemmas.{told_done, told_refused}
use Rattle.treasury_client.proofs.heard.heard_text.Goals as goal

pub returns-then-is_done-clause-said : goal.returns-then-is_done-clause-said
returns-then-is_done-clause-said c =
    told_done c.told.result c.args.reply.now.status.now c.args.reply.now.body.now
    (sym c.is_done.ensures ∙ c.if-is_done.true) c.told.ensures.ok

pub returns-in-Some-clause-said : goal.returns-in-Some-clause-said
returns-in-Some-clause-said c =
    told_refused c.told-in-Some.result c.args.reply.now.status.now c.args.reply.now.body.now
    (sym c.is_done.ensures ∙ c.if-is_done.false) (c.in-Some.field-0.now, c.in-Some.ensures) c.told-in-Some.ensures.ok

pub returns-in-None-clause-strange : goal.returns-in-None-clause-strange
returns-in-None-clause-strange c = λ _. (sym c.is_done.ensures ∙ c.if-is_done.false, c.in-None.ensures)
