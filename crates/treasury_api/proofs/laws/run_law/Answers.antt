use Rattle.treasury_api.proofs.HistoryLemmas.{turns_of, transcript_of}
use Rattle.treasury_api.proofs.laws.run_law.Goals as goal

pub returns-clause-turns : goal.returns-clause-turns
returns-clause-turns c = turns_of

pub returns-clause-transcript : goal.returns-clause-transcript
returns-clause-transcript c = transcript_of
