use Rattle.std.proofs.Common.{subst}
use Rattle.sqlite_wal.specs.Files.{image_at}
use Rattle.sqlite.specs.Start.{FindsIn}
use Rattle.sqlite.specs.Files.{file_state}
use Rattle.treasury_files.proofs.LeftLemmas.{keeps_untouched, keeps_unopened}
use Rattle.treasury_files.proofs.file.connect.Goals as goal

pub returns-in-Err-clause-refused : goal.returns-in-Err-clause-refused
returns-in-Err-clause-refused g c = keeps_untouched _ (image_at g.S.Start) _ c.untouched.ensures.left

pub returns-in-Err-open_files-clause-refused : goal.returns-in-Err-open_files-clause-refused
returns-in-Err-open_files-clause-refused g c =
    keeps_untouched _ (image_at g.S.Start) _ c.untouched-in-Err-open_files.ensures.left

pub returns-in-Ok-open_files_with-clause-opened : goal.returns-in-Ok-open_files_with-clause-opened
returns-in-Ok-open_files_with-clause-opened g c = record {
  found = λ clean.
      let found = c.in-Ok-open_files_with.ensures.found clean in
      subst (λ i. FindsIn i (file_state c.in-Ok-open_files_with.conn)) c.in-Ok-open_files.ensures.opened.same
      (record { holds = found.holds; reads = found.reads });
  serves = c.in-Ok-open_files_with.ensures.opened;
}

pub returns-in-Err-open_files_with-clause-refused : goal.returns-in-Err-open_files_with-clause-refused
returns-in-Err-open_files_with-clause-refused g c =
    keeps_unopened _ (image_at g.S.Start) c.in-Err-open_files_with.rest c.in-Ok-open_files.files
    c.in-Ok-open_files.ensures.opened.same c.in-Err-open_files_with.ensures.unharmed
