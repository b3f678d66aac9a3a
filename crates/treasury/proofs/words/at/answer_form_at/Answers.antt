use Rattle.treasury_requests.specs.declared.request.Terms.{Terms}
use Rattle.std.proofs.Common.{Err, ap, subst, inl, inr}
use Rattle.clap.specs.Matches.{found_of}
use Rattle.clap.specs.Walk.{rows_of}
use Rattle.treasury_spelling.specs.Spelling.{request_in, given}
use Rattle.treasury.specs.OverFileParts.{spoken}
use Rattle.money_core.specs.declared.cause.Cause.{Cause}
use Rattle.treasury.specs.Spoken.{IsRefusedBy}
use Rattle.treasury.specs.At.{SaysFrom}
use Rattle.treasury.proofs.OverFileLemmas.{spelled_some}
use Rattle.treasury.proofs.words.at.answer_form_at.Goals as goal

pub returns-in-Ok : goal.returns-in-Ok
returns-in-Ok c =
    inr (
      c.in-Ok.request,
      c.in-Ok.ensures.ok,
      subst (λ (terms : Terms). SaysFrom (given terms c.in-Ok.request) (spoken c.answer_request_at.result))
          c.terms_of.ensures c.answer_request_at.ensures,
    )

-- 44 comes where the values spell no request, and 40 where they do
pub returns-after-cause : goal.returns-after-cause
returns-after-cause c =
    elim c.in-Err.ensures.causes [
      | inl none ↦ inl (
        c.in-Err.ensures.refused (ap Err none),
        subst (λ (cause : Cause). IsRefusedBy cause (spoken c.refused.result)) none c.refused.ensures,
      )
      | inr full ↦
          (let made = spelled_some (request_in c.args.word.now (rows_of (found_of c.args.values.now)))
          (c.in-Err.ensures.memory (ap Err full)) in
          inr (
            made.0,
            made.1,
            inl (subst (λ (cause : Cause). IsRefusedBy cause (spoken c.refused.result)) full c.refused.ensures),
          ))
    ]
