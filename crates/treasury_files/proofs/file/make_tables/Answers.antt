use Rattle.sqlite_wal.specs.Files.{image_at}
use Rattle.treasury_files.proofs.LeftLemmas.{keeps_untouched}
use Rattle.treasury_files.proofs.file.make_tables.Goals as goal

pub returns-in-Err : goal.returns-in-Err
returns-in-Err g c = keeps_untouched _ (image_at g.S.Start) _ c.untouched.ensures.left

pub returns : goal.returns
returns g c = c.make_on-made.ensures (image_at g.S.Start) c.in-Ok-connect.ensures.opened
