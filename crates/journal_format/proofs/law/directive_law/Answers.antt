use Rattle.journal_format.proofs.DirectiveFormLemmas.{one_commodity}
use Rattle.journal_format.proofs.law.directive_law.Goals as goal

pub returns : goal.returns
returns c = one_commodity c.args.styles.now
