use Rattle.journal_format.proofs.PostingFormLemmas.{one_posting}
use Rattle.journal_format.proofs.law.posting_law.Goals as goal

pub returns : goal.returns
returns c = one_posting c.args.styles.now
