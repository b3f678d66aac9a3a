use Rattle.serde_json.specs.View.{view}
use Rattle.treasury_requests.proofs.FaultLemmas.{is_request, has_value_fault, has_json_fault}
use Rattle.treasury_requests.proofs.fault.text_fault.Goals as goal

pub returns-else-is_memory-clause-value : goal.returns-else-is_memory-clause-value
returns-else-is_memory-clause-value c =
    has_json_fault c.args.text.now _ _ _ c.utf8.text (c.in-Err.ensures.err (λ m.
    (let held = c.is_memory.ensures.1 m in let lacks = c.if-is_memory.false in cc)))

pub returns-in-Ok-spelled_in-clause-value : goal.returns-in-Ok-spelled_in-clause-value
returns-in-Ok-spelled_in-clause-value c =
    is_request c.args.text.now (view c.in-Ok.value) _ c.utf8.text c.in-Ok.ensures.ok c.in-Ok-spelled_in.ensures.ok

pub returns-in-Err-Request-clause-value : goal.returns-in-Err-Request-clause-value
returns-in-Err-Request-clause-value c =
    has_value_fault c.args.text.now (view c.in-Ok.value) c.in_ok-fault-in-Err-Request.fault c.utf8.text
    c.in-Ok.ensures.ok (c.in-Err-Request.ensures.refused (let is = c.in-Err-Request.field-0-is in cc))
    c.in_ok-fault-in-Err-Request.ensures.value
