use Rattle.std.proofs.Common.{◌≡◌, ◌≤◌, ◌+◌, ℕ, List, Option, Result, inl, refl, subst, length, arith, false, ap, sym}
use Rattle.std.proofs.Common.{◌∙◌}
use Rattle.http_request.specs.declared.call.Form.TheVariants as form
use Rattle.std.specs.Cow.{cow_slice_items}
use Rattle.book_core.specs.declared.refusal.Refusal.{Refusal}
use Rattle.treasury_core.specs.declared.command.Answer.{Answer}
use Rattle.treasury_requests.specs.Request.{is_report}
use Rattle.money_core.specs.Cause.{cause_number}
use Rattle.treasury_api.specs.Replied.{IsAnsweredIn}
use Rattle.treasury_api.specs.WebReply.{status_of, form_of_reply}
use Rattle.treasury_api.specs.WebServing.{code_of, entries_told, IsJsonRefusal}
use Rattle.treasury_api.specs.Web.{IsBodyIn}
use Rattle.treasury_api.proofs.OneRequestLemmas.{replied_done, replied_as}
use Rattle.treasury_api.proofs.JsonLemmas.{done_body, entries_after, refused_in_json, open_but_json, json_status}
use Rattle.treasury_api.proofs.JsonLemmas.{told_of}
use Rattle.treasury_api.proofs.web.answering.answer_in_json.Goals as goal

pub done_in_json-requires-clause-short : goal.done_in_json-requires-clause-short
done_in_json-requires-clause-short g c other =
    subst (λ (xs : List ℕ). length c.answer_ahead.new.out.items ≤ length xs + 64) c.new-text.ensures.items
    (c.in-Ok-answer_ahead.ensures.short other)

pub returns-in-Ok-answer_ahead-clause-replies : goal.returns-in-Ok-answer_ahead-clause-replies
returns-in-Ok-answer_ahead-clause-replies g c =
    let text = c.answer_ahead.new.out.items in
    let body = c.done_in_json.result.items in
    replied_done form.Json g.S.Store c.args.treasury.now c.answer_ahead.new.treasury text c.args.request.now
    (IsBodyIn form.Json body c.args.request.now) (λ (reply : Result Answer Refusal). 200 ≡ status_of reply)
    c.answer_ahead.result c.in-Ok-answer_ahead.field-0 c.in-Ok-answer_ahead.is c.requires
    c.answer_ahead.ensures.database.shuts.clean
    (λ k f of. subst (λ (xs : List ℕ).
    IsAnsweredIn form.Json g.S.Store c.args.treasury.now.store.failed c.answer_ahead.new.treasury f c.args.request.now
    c.answer_ahead.result xs text) c.new-text.ensures.items (c.answer_ahead.ensures.replies k f of))
    (λ f asked answer asks replies of said.
    done_body c.args.treasury.now.store.failed f c.args.request.now asked answer
    (entries_told c.answer_ahead.new.treasury.held c.args.request.now) text body asks replies
    (entries_after g.S.Store c.answer_ahead.new.treasury f c.args.request.now c.args.treasury.now.store.failed
    asked answer
    asks of) said
    c.done_in_json.ensures.report c.done_in_json.ensures.other)
    (λ answer. refl)

pub returns-in-Ok-answer_ahead-clause-leaves : goal.returns-in-Ok-answer_ahead-clause-leaves
returns-in-Ok-answer_ahead-clause-leaves g c = record {
  left = c.answer_ahead.ensures.left;
  open_but = λ clean is_open. inl (c.in-Ok-answer_ahead.ensures.database.still_open clean is_open);
  shuts = c.answer_ahead.ensures.database.shuts;
  closed = λ failed. (c.answer_ahead.ensures.closed failed).1;
}

pub returns-in-Err-answer_ahead-clause-replies : goal.returns-in-Err-answer_ahead-clause-replies
returns-in-Err-answer_ahead-clause-replies g c =
    let text = c.answer_ahead.new.out.items in
    let line = cow_slice_items c.refuse_by-line.result.text in
    let body = cow_slice_items c.refuse_in_json-object.result.text in
    replied_as form.Json g.S.Store c.args.treasury.now c.answer_ahead.new.treasury text c.args.request.now
    (IsBodyIn form.Json body c.args.request.now)
    (λ (reply : Result Answer Refusal). code_of c.status_of.result ≡ status_of reply)
    c.answer_ahead.result c.in-Err-answer_ahead.refusal c.in-Err-answer_ahead.is c.requires
    c.answer_ahead.ensures.database.shuts.clean
    (λ k f of. subst (λ (xs : List ℕ).
    IsAnsweredIn form.Json g.S.Store c.args.treasury.now.store.failed c.answer_ahead.new.treasury f c.args.request.now
    c.answer_ahead.result xs text) c.new-text.ensures.items (c.answer_ahead.ensures.replies k f of))
    (λ f of. refused_in_json g.S.Store c.answer_ahead.new.treasury c.args.request.now f (code_of c.status_of.result)
    line body c.refuse_by-line.result.cause c.refuse_in_json-object.result.cause of
    (subst (λ (entries : Option ℕ). IsJsonRefusal line c.refuse_by-line.result.cause entries
    c.refuse_in_json-object.result.cause body)
    (told_of _ c.state-state.result c.answer_ahead.new.treasury.held c.args.request.now c.entries_told-entries.result
    c.entries_told-entries.ensures c.state-state.ensures) c.refuse_in_json-object.ensures.refused)
    c.status_of.ensures c.in-Err-answer_ahead.refusal c.refuse_by-line.ensures)

pub returns-in-Err-answer_ahead-clause-leaves : goal.returns-in-Err-answer_ahead-clause-leaves
returns-in-Err-answer_ahead-clause-leaves g c = record {
  left = c.answer_ahead.ensures.left;
  open_but = λ clean is_open.
      open_but_json g.S.Store c.args.treasury.now c.answer_ahead.new.treasury
      c.answer_ahead.result c.in-Err-answer_ahead.refusal
      c.refuse_by-line.result.cause c.refuse_in_json-object.result.cause _ (code_of c.status_of.result)
      (cow_slice_items c.refuse_by-line.result.text) (cow_slice_items c.refuse_in_json-object.result.text)
      c.in-Err-answer_ahead.is
      c.refuse_by-line.ensures c.refuse_in_json-object.ensures.refused c.status_of.ensures is_open
      c.answer_ahead.ensures.refuses.fails (λ failed. (c.answer_ahead.ensures.closed failed).1)
      (c.answer_ahead.ensures.database.open_but clean is_open);
  shuts = c.answer_ahead.ensures.database.shuts;
  closed = λ failed. (c.answer_ahead.ensures.closed failed).1;
}

pub returns-in-Err-answer_ahead-clause-form : goal.returns-in-Err-answer_ahead-clause-form
returns-in-Err-answer_ahead-clause-form g c =
    json_status (cause_number c.refuse_in_json-object.result.cause)
    ∙ ap (form_of_reply form.Json) (sym c.status_of.ensures)
