use Rattle.std.proofs.Common.{◌≡◌, ℕ, List, true, false, Result, refl, subst}
use Rattle.book_core.specs.declared.refusal.Refusal.{Refusal}
use Rattle.treasury_core.specs.declared.command.Answer.{Answer}
use Rattle.treasury_api.specs.OneRequest.{is_refusal}
use Rattle.treasury_api.specs.Replied.{IsAnswered}
use Rattle.treasury_api.proofs.OneRequestLemmas.{said_done, said_refusal}
use Rattle.treasury.proofs.words.over_file.answer_word.Goals as goal

pub returns-in-Ok-clause-says : goal.returns-in-Ok-clause-says
returns-in-Ok-clause-says g c =
    said_done g.S.Store c.args.treasury.now c.answer_ahead.new.treasury c.answer_ahead.new.out.items c.args.request.now
    (λ (reply : Result Answer Refusal). false ≡ is_refusal reply) c.answer_ahead.result c.in-Ok.field-0 c.in-Ok.is
    c.requires c.answer_ahead.ensures.database.shuts.clean
    (λ k f of. subst (λ (xs : List ℕ).
    IsAnswered g.S.Store c.args.treasury.now.store.failed c.answer_ahead.new.treasury f c.args.request.now
    c.answer_ahead.result
    xs c.answer_ahead.new.out.items) c.new-text.ensures.items (c.answer_ahead.ensures.replies k f of))
    (λ answer. refl)

pub returns-in-Err-clause-says : goal.returns-in-Err-clause-says
returns-in-Err-clause-says g c =
    said_refusal g.S.Store c.args.treasury.now c.answer_ahead.new.treasury c.answer_ahead.new.out.items _
    c.args.request.now
    (λ (reply : Result Answer Refusal). true ≡ is_refusal reply) c.answer_ahead.result c.in-Err.refusal c.in-Err.is
    c.requires c.answer_ahead.ensures.database.shuts.clean
    (λ k f of. subst (λ (xs : List ℕ).
    IsAnswered g.S.Store c.args.treasury.now.store.failed c.answer_ahead.new.treasury f c.args.request.now
    c.answer_ahead.result
    xs c.answer_ahead.new.out.items) c.new-text.ensures.items (c.answer_ahead.ensures.replies k f of))
    c.refuse.ensures refl refl
