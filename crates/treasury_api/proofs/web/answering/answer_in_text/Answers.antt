use Rattle.std.proofs.Common.{◌≡◌, ℕ, List, Result, inl, refl, subst}
use Rattle.std.specs.Cow.{cow_slice_items}
use Rattle.book_core.specs.declared.refusal.Refusal.{Refusal}
use Rattle.treasury_core.specs.declared.command.Answer.{Answer}
use Rattle.treasury_api.specs.Replied.{IsAnswered}
use Rattle.treasury_api.specs.WebReply.{status_of}
use Rattle.treasury_api.specs.WebServing.{code_of}
use Rattle.treasury_api.proofs.OneRequestLemmas.{said_done, said_as}
use Rattle.treasury_api.proofs.WebLemmas.{told_as, open_but_failed}
use Rattle.treasury_api.proofs.web.answering.answer_in_text.Goals as goal

pub returns-in-Ok-clause-replies : goal.returns-in-Ok-clause-replies
returns-in-Ok-clause-replies g c =
    said_done g.S.Store c.args.treasury.now c.answer.new.treasury c.answer.new.out.items c.args.request.now
    (λ (reply : Result Answer Refusal). 200 ≡ status_of reply) c.answer.result c.in-Ok.field-0 c.in-Ok.is
    c.requires c.answer.ensures.database.shuts.clean
    (λ k f of. subst (λ (xs : List ℕ).
    IsAnswered g.S.Store c.args.treasury.now.store.failed c.answer.new.treasury f c.args.request.now c.answer.result
    xs c.answer.new.out.items) c.new-body.ensures.items (c.answer.ensures.replies k f of))
    (λ answer. refl)

pub returns-in-Ok-clause-leaves : goal.returns-in-Ok-clause-leaves
returns-in-Ok-clause-leaves g c = record {
  left = c.answer.ensures.left;
  open_but = λ clean is_open. inl (c.in-Ok.ensures.database.still_open clean is_open);
  shuts = c.answer.ensures.database.shuts;
  closed = λ failed. (c.answer.ensures.closed failed).1;
}

pub returns-in-Err-clause-replies : goal.returns-in-Err-clause-replies
returns-in-Err-clause-replies g c =
    said_as g.S.Store c.args.treasury.now c.answer.new.treasury c.answer.new.out.items _ c.args.request.now
    (λ (reply : Result Answer Refusal). code_of c.status_of.result ≡ status_of reply) c.answer.result
    c.in-Err.refusal c.in-Err.is c.requires c.answer.ensures.database.shuts.clean
    (λ k f of. subst (λ (xs : List ℕ).
    IsAnswered g.S.Store c.args.treasury.now.store.failed c.answer.new.treasury f c.args.request.now c.answer.result
    xs c.answer.new.out.items) c.new-body.ensures.items (c.answer.ensures.replies k f of))
    (λ f of. told_as g.S.Store c.answer.new.treasury f c.in-Err.refusal c.refuse_by-line.result.cause _
    (cow_slice_items c.refuse_by-line.result.text) of c.refuse_by-line.ensures c.status_of.ensures)

pub returns-in-Err-clause-leaves : goal.returns-in-Err-clause-leaves
returns-in-Err-clause-leaves g c = record {
  left = c.answer.ensures.left;
  open_but = λ clean is_open.
      open_but_failed g.S.Store c.args.treasury.now c.answer.new.treasury c.answer.result c.in-Err.refusal
      c.refuse_by-line.result.cause (code_of c.status_of.result) (cow_slice_items c.refuse_by-line.result.text)
      c.in-Err.is
      c.refuse_by-line.ensures c.status_of.ensures is_open c.answer.ensures.refuses.fails
      (λ failed. (c.answer.ensures.closed failed).1) (c.answer.ensures.database.open_but clean is_open);
  shuts = c.answer.ensures.database.shuts;
  closed = λ failed. (c.answer.ensures.closed failed).1;
}
