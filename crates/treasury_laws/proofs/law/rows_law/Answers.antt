use Rattle.treasury_laws.proofs.RowsLawLemmas.{same_state}
use Rattle.treasury_laws.proofs.law.rows_law.Goals as goal

pub returns : goal.returns
returns c = same_state
