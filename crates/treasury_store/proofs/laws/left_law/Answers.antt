use Rattle.treasury_store.proofs.LeftLemmas.{leaves_rows, leaves_no_more, leaves_same, leaves_step}
use Rattle.treasury_store.proofs.laws.left_law.Goals as goal

pub returns-clause-rows : goal.returns-clause-rows
returns-clause-rows g c = leaves_rows g.S.Store g.met.S.Store.settled

pub returns-clause-within : goal.returns-clause-within
returns-clause-within g c = leaves_no_more g.S.Store g.met.S.Store.settled

pub returns-clause-same : goal.returns-clause-same
returns-clause-same g c = leaves_same g.S.Store g.met.S.Store.settled

pub returns-clause-command : goal.returns-clause-command
returns-clause-command g c = leaves_step g.S.Store g.met.S.Store.settled
