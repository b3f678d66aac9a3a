use Rattle.std.proofs.Common.{refl, sym, ◌∙◌}
use Rattle.treasury_client.proofs.HeardLemmas.{none_to_report, other_to_report, strange_to_report}
use Rattle.treasury_client.proofs.heard.hear_report.Goals as goal

pub returns-in-None-clause-strange : goal.returns-in-None-clause-strange
returns-in-None-clause-strange c = λ _. none_to_report c.args.came.now (c.in-None.ensures.missed refl)

pub returns-else-is_text-clause-strange : goal.returns-else-is_text-clause-strange
returns-else-is_text-clause-strange c = λ _.
    other_to_report c.args.came.now c.in-Some.reply.status.now c.in-Some.reply.kind.now c.in-Some.reply.body.now
    c.in-Some.ensures.found (sym c.is_text.ensures ∙ c.if-is_text.false)

pub returns-in-Err-clause-strange : goal.returns-in-Err-clause-strange
returns-in-Err-clause-strange c = λ fault.
    let none = c.in-Err.ensures.strange fault in
    strange_to_report c.args.came.now c.in-Some.reply.status.now c.in-Some.reply.kind.now c.in-Some.reply.body.now
    c.in-Some.ensures.found none.0 none.1

pub returns-in-Ok-clause-said : goal.returns-in-Ok-clause-said
returns-in-Ok-clause-said c = (
  c.in-Some.reply.status.now,
  c.in-Some.reply.kind.now,
  c.in-Some.reply.body.now,
  c.in-Some.ensures.found,
  sym c.is_text.ensures ∙ c.if-is_text.true,
  c.in-Ok.ensures.said.0,
  c.in-Ok.ensures.said.1,
  c.in-Ok.ensures.said.2,
)
