use Rattle.treasury_store.proofs.JudgingLemmas.{reads_none}
use Rattle.treasury_files.proofs.file.try_first.Goals as goal

pub returns-in-Ok-clause-reads : goal.returns-in-Ok-clause-reads
returns-in-Ok-clause-reads g c = reads_none g.S.Store c.args.conn.now

pub returns-then-not-is_damage-clause-reads : goal.returns-then-not-is_damage-clause-reads
returns-then-not-is_damage-clause-reads g c = reads_none g.S.Store c.args.conn.now
