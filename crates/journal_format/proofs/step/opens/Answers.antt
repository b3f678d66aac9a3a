use Rattle.std.proofs.Common.{arith}
use Rattle.journal_format.proofs.SizeLemmas.{body_size}
use Rattle.journal_format.proofs.step.opens.Goals as goal

pub returns-in-Ok-begun-clause-size : goal.returns-in-Ok-begun-clause-size
returns-in-Ok-begun-clause-size c =
    let styles = c.args.styles.now in
    omega (arith, c.in-Ok-begun.ensures.size styles, body_size styles c.in-Ok-begun.txn)
