use Rattle.std.proofs.Common.{sym, inr, ◌∙◌, refl, ap}
use Rattle.http_request.specs.Spaces.{spaces}
use Rattle.http_request.proofs.EndLemmas.{never_short, inside_target}
use Rattle.http_request.proofs.head.end_early.Goals as goal

pub returns-in-Ok-false-clause-never : goal.returns-in-Ok-false-clause-never
returns-in-Ok-false-clause-never c =
    let told = rw c.in-Ok-false.field-0-test at c.in-Ok-false.ensures.found in (
      refl,
      never_short c.args.text.now.items c.requires.none
          (λ e. c.if-spaces-eq1.false (c.spaces.ensures ∙ (ap spaces c.as_slice.ensures.value ∙ e))) told,
    )

pub returns-then-spaces-eq1-clause-early : goal.returns-then-spaces-eq1-clause-early
returns-then-spaces-eq1-clause-early c = λ _.
    inr (inside_target c.args.text.now.items c.requires.may
    (sym (c.spaces.ensures ∙ ap spaces c.as_slice.ensures.value) ∙ c.if-spaces-eq1.true))
