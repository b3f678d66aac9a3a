use Rattle.std.proofs.Common.{ap, inl, inr, sym, subst}
use Rattle.treasury_requests.specs.declared.request.Request.{Request}
use Rattle.treasury_spelling.specs.Spelling.{given}
use Rattle.treasury.specs.OverFileParts.{spoken}
use Rattle.treasury.specs.Spoken.{Spoken}
use Rattle.treasury.specs.At.{SaysToBytesAt, SaysFrom}
use Rattle.treasury.proofs.words.at.answer_bytes_at.Goals as goal

pub returns-in-Ok-import_of : goal.returns-in-Ok-import_of
returns-in-Ok-import_of c =
    inr (
      c.in-Ok.text.items,
      c.in-Ok.ensures,
      subst (λ (r : Request). SaysFrom (given c.args.terms r) (spoken c.with_own_lines.result))
          c.in-Ok-import_of.ensures.request
          (subst (SaysFrom (given c.args.terms c.in-Ok-import_of.request)) (sym c.with_own_lines.ensures)
          c.answer_request_at-said.ensures),
    )
