use Rattle.std.proofs.Common.{sym, subst, inl, inr}
use Rattle.sqlite_wal.specs.Files.{image_at}
use Rattle.treasury_files.specs.Left.{KeepsFile}
use Rattle.treasury.specs.OverFileParts.{spoken}
use Rattle.treasury.proofs.OverFileLemmas.{file_refused}
use Rattle.treasury.proofs.words.over_file.answer_init.Goals as goal

pub returns-in-Ok : goal.returns-in-Ok
returns-in-Ok g c = inr (c.in-Ok.ensures, c.done.ensures)

pub returns-in-Err : goal.returns-in-Err
returns-in-Err g c = inl (
  file_refused c.in-Err.refused.why (spoken c.refused_by.result.said) c.refused_by.ensures.refused,
  subst (λ left. KeepsFile _ (image_at g.S.Start) left) (sym c.refused_by.ensures.left) c.in-Err.ensures,
)
