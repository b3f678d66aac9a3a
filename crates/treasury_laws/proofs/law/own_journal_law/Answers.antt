use Rattle.std.proofs.Common.{length}
use Rattle.treasury_laws.proofs.OwnLemmas.{own_reply, none_new_stays}
use Rattle.treasury_laws.proofs.law.own_journal_law.Goals as goal

pub returns : goal.returns
returns c f name file good here own =
    let answer = own_reply f name file good here own in (answer, none_new_stays f name file (length file) answer)
