use Rattle.treasury_core.specs.declared.command.Answer.TheVariants.{Entered}
use Rattle.treasury_core.proofs.ReplyLemmas.{accepted_new}
use Rattle.treasury_laws.proofs.OwnLemmas.{accepted_counts, entered_records}
use Rattle.treasury_laws.proofs.law.entered_law.Goals as goal

pub returns-clause-records : goal.returns-clause-records
returns-clause-records c = entered_records

pub returns-clause-new : goal.returns-clause-new
returns-clause-new c f name file new repeated h = accepted_new f name file (Entered new repeated) h

pub returns-clause-counts : goal.returns-clause-counts
returns-clause-counts c = accepted_counts
