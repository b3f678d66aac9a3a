use Rattle.std.proofs.Common.{refl, inl, inr}
use Rattle.treasury_client.proofs.HeardLemmas.{none_to_command, strange_to_command}
use Rattle.treasury_client.proofs.heard.hear_command.Goals as goal

pub returns-in-None-clause-strange : goal.returns-in-None-clause-strange
returns-in-None-clause-strange c = λ _. none_to_command c.args.came.now (c.in-None.ensures.missed refl)

pub returns-in-Err-clause-strange : goal.returns-in-Err-clause-strange
returns-in-Err-clause-strange c = λ fault.
    strange_to_command c.args.came.now c.in-Some.reply.status.now c.in-Some.reply.kind.now c.in-Some.reply.body.now
    c.in-Some.ensures.found (c.in-Err.ensures.refused fault)

pub returns-in-Ok-clause-said : goal.returns-in-Ok-clause-said
returns-in-Ok-clause-said c = (
  c.in-Some.reply.status.now,
  c.in-Some.reply.kind.now,
  c.in-Some.reply.body.now,
  c.in-Some.ensures.found,
  c.in-Ok.ensures.json,
  c.in-Ok.ensures.answer,
  c.in-Ok.ensures.refusal,
)
