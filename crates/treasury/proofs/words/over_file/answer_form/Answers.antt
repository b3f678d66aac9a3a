use Rattle.treasury_requests.specs.declared.request.Terms.{Terms}
use Rattle.std.proofs.Common.{Err, ap, inl, inr, refl}
use Rattle.clap.specs.Matches.{found_of}
use Rattle.clap.specs.Walk.{rows_of}
use Rattle.sqlite_wal.specs.Files.{image_at}
use Rattle.treasury_spelling.specs.Spelling.{request_in, terms_in, given}
use Rattle.treasury.specs.OverFileParts.{spoken}
use Rattle.treasury.proofs.OverFileLemmas.{said_alike, says_before, refused_before, spelled_some}
use Rattle.treasury.proofs.words.over_file.answer_form.Goals as goal

pub returns-in-Ok : goal.returns-in-Ok
returns-in-Ok g c =
    inr (
      c.in-Ok.request,
      c.in-Ok.ensures.ok,
      said_alike _ (image_at g.S.Start) _ (given (terms_in (rows_of (found_of c.args.values.now))) c.in-Ok.request)
          (spoken c.answer_request.result.said) c.answer_request.result.left
          (ap (λ (terms : Terms). given terms c.in-Ok.request) c.terms_of.ensures) c.answer_request.ensures,
    )

-- 44 comes where the values spell no request, and 40 where they do
pub returns-after-cause : goal.returns-after-cause
returns-after-cause g c =
    let rows = rows_of (found_of c.args.values.now) in
    elim c.in-Err.ensures.causes [
      | inl none ↦ inl (
        c.in-Err.ensures.refused (ap Err none),
        refused_before _ c.refused.result c.in-Err.cause _ refl none c.refused.ensures,
      )
      | inr full ↦
          (let made = spelled_some (request_in c.args.word.now rows) (c.in-Err.ensures.memory (ap Err full)) in
          inr (
            made.0,
            made.1,
            says_before _ (image_at g.S.Start) (given (terms_in rows) made.0) c.refused.result c.in-Err.cause
                _ refl full c.refused.ensures,
          ))
    ]
