use Rattle.treasury_memory.proofs.CleanLemmas.{memory_is_clean}
use Rattle.treasury_memory.proofs.open.clean_law.Goals as goal

pub returns : goal.returns
returns c = memory_is_clean c.args.conn.now
