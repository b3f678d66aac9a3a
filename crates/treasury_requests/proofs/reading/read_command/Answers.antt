use Rattle.std.proofs.Common.{◌≡◌, ◌∙◌, sym, ap, subst, refl, inl, Some, None, Err, option_and_then}
use Rattle.std.specs.Result.{IfOk}
use Rattle.serde_json.specs.Read.{read}
use Rattle.serde_json.specs.View.{view}
use Rattle.money_core.specs.declared.cause.Cause.TheVariants as cause
use Rattle.treasury_requests.specs.Request.{request_of, spelled}
use Rattle.treasury_requests.proofs.RequestLemmas.{spelled-utf8}
use Rattle.treasury_requests.proofs.RequiredLemmas.{keeps_required}
use Rattle.treasury_requests.proofs.reading.read_command.Goals as goal

pub returns-clause-ok : goal.returns-clause-ok
returns-clause-ok c =
    let same : spelled c.args.text.now ≡ request_of (view c.in-Ok.value) =
    spelled-utf8 c.args.text.now c.utf8.text ∙ ap (option_and_then request_of) c.in-Ok.ensures.ok in
    subst (λ v. IfOk c.spelled_in.result (λ r. v ≡ Some r)) (sym same) c.spelled_in.ensures.ok

pub returns-clause-refused : goal.returns-clause-refused
returns-clause-refused c = λ refused.
    spelled-utf8 c.args.text.now c.utf8.text ∙ (ap (option_and_then request_of) c.in-Ok.ensures.ok
    ∙ c.spelled_in.ensures.refused refused)

pub returns-else-is_memory-clause-required : goal.returns-else-is_memory-clause-required
returns-else-is_memory-clause-required c =
    let none : read c.args.text.now ≡ None = c.in-Err.ensures.err (λ m.
    (let held = c.is_memory.ensures.1 m in let lacks = c.if-is_memory.false in cc)) in
    keeps_required c.args.text.now (Err cause.Request) tt
    (λ _. spelled-utf8 c.args.text.now c.utf8.text ∙ ap (option_and_then request_of) none) (inl refl)

pub returns-clause-required : goal.returns-clause-required
returns-clause-required c =
    keeps_required c.args.text.now c.spelled_in.result (returns-clause-ok c) (returns-clause-refused c)
    c.spelled_in.ensures.causes
