use Rattle.money_core.proofs.ReadingLemmas.{reads_iff, malformed_iff, unknown_iff, decimals_iff, one_of_causes}
use Rattle.money_core.proofs.reading.read_amount.Goals as goal

pub returns-clause-reads : goal.returns-clause-reads
returns-clause-reads c = λ place units.
    reads_iff c.args.styles.now c.args.text.now c.amount_of_parts.result
    (rw (c.amount_parts.ensures, c.as_bytes.ensures.value) at c.amount_of_parts.ensures) place units

pub returns-clause-amount : goal.returns-clause-amount
returns-clause-amount c = malformed_iff c.args.styles.now c.args.text.now c.amount_of_parts.result
    (rw (c.amount_parts.ensures, c.as_bytes.ensures.value) at c.amount_of_parts.ensures)

pub returns-clause-unknown : goal.returns-clause-unknown
returns-clause-unknown c = unknown_iff c.args.styles.now c.args.text.now c.amount_of_parts.result
    (rw (c.amount_parts.ensures, c.as_bytes.ensures.value) at c.amount_of_parts.ensures)

pub returns-clause-decimals : goal.returns-clause-decimals
returns-clause-decimals c = decimals_iff c.args.styles.now c.args.text.now c.amount_of_parts.result
    (rw (c.amount_parts.ensures, c.as_bytes.ensures.value) at c.amount_of_parts.ensures)

pub returns-clause-causes : goal.returns-clause-causes
returns-clause-causes c = one_of_causes c.args.styles.now c.args.text.now c.amount_of_parts.result
    (rw (c.amount_parts.ensures, c.as_bytes.ensures.value) at c.amount_of_parts.ensures)
