use Rattle.treasury_laws.proofs.HeadlineLemmas.{run_grown}
use Rattle.treasury_laws.proofs.law.growing_law.Goals as goal

pub returns : goal.returns
returns c = run_grown
