use Rattle.std.proofs.Common.{sym, subst}
use Rattle.sqlite_wal.specs.Files.{image_at}
use Rattle.treasury_files.specs.Started.{IsUnserved}
use Rattle.treasury.specs.OverFileParts.{spoken}
use Rattle.treasury.proofs.OverFileLemmas.{says_refused}
use Rattle.treasury.proofs.words.over_file.answer_request.Goals as goal

pub returns-in-Ok : goal.returns-in-Ok
returns-in-Ok g c = c.answer_on_file.ensures.says (image_at g.S.Start) c.in-Ok.ensures

pub returns-in-Err : goal.returns-in-Err
returns-in-Err g c =
    says_refused _ (image_at g.S.Start) c.args.request.now c.in-Err.refused.why (spoken c.refused_by.result.said)
    c.refused_by.result.left c.refused_by.ensures.refused
    (subst (λ left. IsUnserved _ (image_at g.S.Start) c.in-Err.refused.why left) (sym c.refused_by.ensures.left)
    c.in-Err.ensures)
