use Rattle.std.proofs.Common.{◌+◌, ◌∙◌, ap}
use Rattle.std.specs.Str.{is_utf8}
use Rattle.journal_lines.proofs.LineSteps.{whole_rest}
use Rattle.journal_lines.proofs.Utf8Lemmas.{front_found}
use Rattle.journal_lines.proofs.comment.comment_of.Goals as goal

pub returns-in-Some-clause-utf8 : goal.returns-in-Some-clause-utf8
returns-in-Some-clause-utf8 c = λ h.
    c.trim.ensures.utf8
    (ap is_utf8 (whole_rest (c.in-Some.at + 1) c.args.line.now) ∙
    (front_found c.args.line.now c.in-Some.at c.in-Some.ensures h).1)
