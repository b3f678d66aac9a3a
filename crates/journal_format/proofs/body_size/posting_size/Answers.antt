use Rattle.std.proofs.Common.{arith, ap}
use Rattle.journal_format.specs.BodySize.{remarks_size}
use Rattle.journal_format.proofs.SizeLemmas.{posting_size}
use Rattle.journal_format.proofs.body_size.posting_size.Goals as goal

pub returns-clause-size : goal.returns-clause-size
returns-clause-size c =
    omega (
      arith,
      posting_size c.args.styles.now c.args.posting.now,
      c.line_size.ensures.size,
      c.remarks_size.ensures.size,
      ap remarks_size c.items.ensures,
    )
