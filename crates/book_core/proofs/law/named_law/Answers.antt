use Rattle.book_core.proofs.NamedLemmas.{failed_parts, failed_named}
use Rattle.book_core.proofs.law.named_law.Goals as goal

pub returns-clause-first : goal.returns-clause-first
returns-clause-first c = λ f h. (failed_parts c.args.entries.now f h).1

pub returns-clause-named : goal.returns-clause-named
returns-clause-named c = failed_named c.args.entries.now
