use Rattle.std.proofs.Common.{◌∙◌, ap}
use Rattle.std.specs.Str.{is_utf8}
use Rattle.journal_lines.proofs.LineSteps.{whole_rest}
use Rattle.journal_lines.proofs.Utf8Lemmas.{sign_utf8}
use Rattle.journal_lines.proofs.header.behind_status.Goals as goal

pub returns-then-first-eq33-clause-utf8 : goal.returns-then-first-eq33-clause-utf8
returns-then-first-eq33-clause-utf8 c = λ h. c.trim_start.ensures.utf8
    (ap is_utf8 (whole_rest 1 c.args.text.now) ∙ sign_utf8 c.args.text.now c.first_byte-first.result
    c.if-first-eq33.either c.first_byte-first.ensures h)
