use Rattle.std.proofs.Common.{◌≡◌, ◌∙◌, sym}
use Rattle.http_request.specs.declared.call.Form.TheVariants as form
use Rattle.treasury_api.specs.Answer.{answer_text}
use Rattle.treasury_api.proofs.JsonLemmas.{request_object}
use Rattle.treasury_api.proofs.web.answering.no_request.Goals as goal

pub returns-in-Text-clause-body : goal.returns-in-Text-clause-body
unfolding answer_text
returns-in-Text-clause-body c = rw c.in-Text.is (c.plain_reply.ensures.body ∙ c.plain_line.ensures.line)

pub returns-in-Text-clause-told : goal.returns-in-Text-clause-told
returns-in-Text-clause-told c json = absurd (let k : form.Text ≡ form.Json = sym c.in-Text.is ∙ json in cc)

pub returns-in_ok-room-in-Json-clause-body : goal.returns-in_ok-room-in-Json-clause-body
returns-in_ok-room-in-Json-clause-body c =
    rw c.in-Json.is (request_object c.refuse_plain_in_json-object.result.items
    c.refuse_plain_in_json-object.ensures.refused)
