use Rattle.std.proofs.Common.{refl, rules}
use Rattle.treasury_client.proofs.ReplyLemmas.{no_first, no_second, no_third, reply_told}
use Rattle.treasury_client.proofs.reply.read_reply.Goals as goal

pub returns-in-None-clause-missed : goal.returns-in-None-clause-missed
returns-in-None-clause-missed c = λ _. no_first c.args.bytes.now (c.in-None.ensures.missed refl)

pub returns-in-None-value_behind-clause-missed : goal.returns-in-None-value_behind-clause-missed
returns-in-None-value_behind-clause-missed c = λ _.
    let first = c.in-Some.ensures.found in
    no_second c.args.bytes.now c.in-Some.parts.0.now c.in-Some.parts.1.now first.0 first.1 first.2
    (c.in-None-value_behind.ensures.missed refl)

pub returns-in-None-body_behind-clause-missed : goal.returns-in-None-body_behind-clause-missed
returns-in-None-body_behind-clause-missed c = λ _.
    let first = c.in-Some.ensures.found in
    let second = c.in-Some-value_behind.ensures.found in
    no_third c.args.bytes.now c.in-Some.parts.0.now c.in-Some.parts.1.now c.in-Some-value_behind.parts.0.now
    c.in-Some-value_behind.parts.1.now first.0 first.1 first.2 second.0 second.1 second.2
    (c.in-None-body_behind.ensures.missed refl)

pub returns-in-Some-body_behind-clause-found : goal.returns-in-Some-body_behind-clause-found
returns-in-Some-body_behind-clause-found c =
    let first = c.in-Some.ensures.found in
    let second = c.in-Some-value_behind.ensures.found in
    record {
      written = reply_told c.args.bytes.now c.in-Some.parts.0.now c.in-Some.parts.1.now
          c.in-Some-value_behind.parts.0.now c.in-Some-value_behind.parts.1.now c.in-Some-body_behind.body.now first.0
          second.0 c.in-Some-body_behind.ensures.found;
      status_line = first.1;
      kind_line = second.1;
      fits = search rules;
    }
