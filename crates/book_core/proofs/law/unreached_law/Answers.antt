use Rattle.book_core.proofs.ReachLemmas.{unreached_law}
use Rattle.book_core.proofs.law.unreached_law.Goals as goal

pub returns : goal.returns
returns c = unreached_law c.args.old.now c.args.new.now
