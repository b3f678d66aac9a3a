use Rattle.journal_format.proofs.ReadLemmas.{printable_exactly}
use Rattle.journal_format.proofs.printable.is_printable.Goals as goal

pub returns-clause-reads : goal.returns-clause-reads
returns-clause-reads c =
    let law = printable_exactly c.args.styles.now c.are_styles.ensures c.args.txn.now in
    (λ h. law.0 (c.has_good_parts.ensures.0 h), λ h. c.has_good_parts.ensures.1 (law.1 h))
