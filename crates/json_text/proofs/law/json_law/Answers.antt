use Rattle.json_text.proofs.Members.{reads_back}
use Rattle.json_text.proofs.law.json_law.Goals as goal

pub returns : goal.returns
returns c = reads_back
