use Rattle.std.proofs.Common.{◌∙◌, refl}
use Rattle.std.specs.Cow.{cow_slice_items}
use Rattle.treasury_api.specs.WebServing.{code_of}
use Rattle.treasury_api.proofs.WebLemmas.{replied, unless_made, text_form, request_answered, told_nothing, told_unasked}
use Rattle.treasury_api.proofs.web.answering.answer_call.Goals as goal

-- ---- a request

pub returns-in-Text-clause-ok : goal.returns-in-Text-clause-ok
returns-in-Text-clause-ok g c =
    rw c.in-Text.is (request_answered g.S.Store c.args.treasury.now c.answer_in_text.new.treasury _
    c.args.received.call c.in-Ok-Request.request (code_of c.answer_in_text.result.status)
    (cow_slice_items c.answer_in_text.result.body)
    (rw c.in-Ok-Request.field-0-is at c.in-Ok-Request.ensures.sought) c.answer_in_text.ensures.replies
    c.answer_in_text.ensures.leaves)

pub returns-in-Text-clause-form : goal.returns-in-Text-clause-form
returns-in-Text-clause-form g c =
    rw c.in-Text.is (c.answer_in_text.ensures.form ∙ text_form (code_of c.answer_in_text.result.status))

pub returns-in-Ok-Request-clause-ok : goal.returns-in-Ok-Request-clause-ok
returns-in-Ok-Request-clause-ok g c =
    rw c.in-Json.is (replied _ _ _ c.answer_in_json.result
    (λ reply replies leaves. request_answered g.S.Store c.args.treasury.now c.answer_in_json.new.treasury _
    c.args.received.call c.in-Ok-Request.request (code_of reply.status) (cow_slice_items reply.body)
    (rw c.in-Ok-Request.field-0-is at c.in-Ok-Request.ensures.sought) replies leaves)
    c.answer_in_json.ensures.replies c.answer_in_json.ensures.leaves)

pub returns-in-Ok-Request-clause-form : goal.returns-in-Ok-Request-clause-form
returns-in-Ok-Request-clause-form g c = rw c.in-Json.is c.answer_in_json.ensures.form

-- ---- no request

pub returns-in-Ok-Misspelled-clause-ok : goal.returns-in-Ok-Misspelled-clause-ok
returns-in-Ok-Misspelled-clause-ok g c =
    replied _ _ _ c.no_request.result
    (λ reply is said. told_unasked g.S.Store c.args.treasury.now c.args.received.form c.args.received.call
    (code_of reply.status) (cow_slice_items reply.body) is said
    (rw c.in-Ok-Misspelled.field-0-is at c.in-Ok-Misspelled.ensures.sought))
    c.no_request.ensures.status c.no_request.ensures.body

pub returns-in-Ok-Misspelled-clause-err : goal.returns-in-Ok-Misspelled-clause-err
returns-in-Ok-Misspelled-clause-err g c = unless_made _ refl

pub returns-in-Ok-NoRequest-clause-ok : goal.returns-in-Ok-NoRequest-clause-ok
returns-in-Ok-NoRequest-clause-ok g c =
    replied _ _ _ c.no_request-in-Ok-NoRequest.result
    (λ reply is said. told_unasked g.S.Store c.args.treasury.now c.args.received.form c.args.received.call
    (code_of reply.status) (cow_slice_items reply.body) is said
    (rw c.in-Ok-NoRequest.field-0-is at c.in-Ok-NoRequest.ensures.sought))
    c.no_request-in-Ok-NoRequest.ensures.status c.no_request-in-Ok-NoRequest.ensures.body

pub returns-in-Ok-NoRequest-clause-err : goal.returns-in-Ok-NoRequest-clause-err
returns-in-Ok-NoRequest-clause-err g c = unless_made _ refl
