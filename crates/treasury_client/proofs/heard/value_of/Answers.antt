use Rattle.std.proofs.Common.{Some, None}
use Rattle.serde_json.specs.View.{view}
use Rattle.treasury_client.proofs.ReplyLemmas.{value_in-no_utf8, value_read}
use Rattle.treasury_client.proofs.heard.value_of.Goals as goal

pub returns-in-Err-clause-refused : goal.returns-in-Err-clause-refused
returns-in-Err-clause-refused c = λ _. value_in-no_utf8 _ c.in-Err.ensures.cases.0

pub returns-in-Ok-from_str-clause-value : goal.returns-in-Ok-from_str-clause-value
returns-in-Ok-from_str-clause-value c =
    value_read c.args.body.now c.in-Ok.text.now (Some (view c.in-Ok-from_str.value)) c.in-Ok.ensures.cases
    c.in-Ok-from_str.ensures.ok

pub returns-else-is_memory-clause-refused : goal.returns-else-is_memory-clause-refused
returns-else-is_memory-clause-refused c = λ _.
    value_read c.args.body.now c.in-Ok.text.now None c.in-Ok.ensures.cases
    (c.in-Err-from_str.ensures.err (λ memory. let clash = c.is_memory.ensures.1 memory in absurd cc))
