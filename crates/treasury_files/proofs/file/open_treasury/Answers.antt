use Rattle.std.proofs.Common.{inl}
use Rattle.sqlite_wal.specs.Files.{image_at}
use Rattle.treasury_files.proofs.LeftLemmas.{keeps_untouched}
use Rattle.treasury_files.proofs.StartedLemmas.{started_by}
use Rattle.treasury_files.proofs.file.open_treasury.Goals as goal

pub returns-in-Err : goal.returns-in-Err
returns-in-Err g c = record {
  keeps = keeps_untouched _ (image_at g.S.Start) _ c.untouched.ensures.left;
  reason = λ is. inl c.untouched.ensures.left;
}

pub returns-in-Err-connect : goal.returns-in-Err-connect
returns-in-Err-connect g c = record {
  keeps = c.in-Err-connect.ensures.refused;
  reason = λ is. absurd (c.in-Err-connect.ensures.never is);
}

pub returns : goal.returns
returns g c = started_by _ (λ r. r.why) (λ r. r.left) c.start_on-started.result (image_at g.S.Start)
    c.in-Ok-connect.conn c.in-Ok-connect.ensures.opened c.start_on-started.ensures
