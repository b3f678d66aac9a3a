use Rattle.std.proofs.Common.{◌++◌, codes, decimal, length, refl}
use Rattle.treasury_client.proofs.ReplyLemmas.{length_cut, other_length, length_told}
use Rattle.treasury_client.proofs.HeardLemmas.{not_true_and_false}
use Rattle.treasury_client.proofs.reply.body_behind.Goals as goal

pub returns-in-None-clause-missed : goal.returns-in-None-clause-missed
returns-in-None-clause-missed c = λ _ body fits same.
    c.in-None.ensures.missed refl (decimal (length body) ++ (codes "\r\nConnection: close\r\n\r\n" ++ body)) same

pub returns-in-None-rest_behind-clause-missed : goal.returns-in-None-rest_behind-clause-missed
returns-in-None-rest_behind-clause-missed c = λ _ body fits same.
    let found = c.in-Some.ensures.found in
    c.in-None-rest_behind.ensures body
    (length_cut c.args.text.now c.in-Some.parts.0.now c.in-Some.parts.1.now body found.0 found.1 found.2 fits same).1

pub returns-else-is_decimal_of-clause-missed : goal.returns-else-is_decimal_of-clause-missed
returns-else-is_decimal_of-clause-missed c = λ _ body fits same.
    let found = c.in-Some.ensures.found in
    other_length c.args.text.now c.in-Some.parts.0.now c.in-Some.parts.1.now c.in-Some-rest_behind.body.now body found.0
    found.1 found.2 c.in-Some-rest_behind.ensures
    (λ is. not_true_and_false c.is_decimal_of.result c.if-is_decimal_of.false (c.is_decimal_of.ensures.1 is)) fits same

pub returns-then-is_decimal_of-clause-found : goal.returns-then-is_decimal_of-clause-found
returns-then-is_decimal_of-clause-found c =
    let found = c.in-Some.ensures.found in
    length_told c.args.text.now c.in-Some.parts.0.now c.in-Some.parts.1.now c.in-Some-rest_behind.body.now found.0
    c.in-Some-rest_behind.ensures (c.is_decimal_of.ensures.0 c.if-is_decimal_of.true)
