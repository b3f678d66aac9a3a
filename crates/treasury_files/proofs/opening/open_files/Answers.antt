use Rattle.std.proofs.Common.{ℕ, Bool, cond, List, ap₂}
use Rattle.sqlite_disk.specs.Events.{Event, replay}
use Rattle.sqlite_wal.specs.Recovery.{Image}
use Rattle.treasury_files.proofs.opening.open_files.Goals as goal

abbrev image : List ℕ → List ℕ → Image
image log db = record { log = log; db = db }

abbrev seen : List ℕ → List ℕ → Bool → List Event → List ℕ
seen log db is_log history = (replay (cond is_log log db) history).seen

pub returns-in-Ok-clause-opened : goal.returns-in-Ok-clause-opened
returns-in-Ok-clause-opened g c =
    let (log, db) = c.in-Ok.ensures.fresh in record {
      log = c.in-Ok.ensures.log;
      db = c.in-Ok.ensures.db;
      same = ap₂ image (ap₂ (seen g.S.Start.log g.S.Start.db) log.0 log.1)
          (ap₂ (seen g.S.Start.log g.S.Start.db) db.0 db.1);
    }
