use Rattle.std.proofs.Common.{arith, ap, length, List, ℕ}
use Rattle.journal_format.proofs.SizeLemmas.{line_is, posting_small}
use Rattle.journal_format.proofs.body_size.line_size.Goals as goal

pub returns-clause-size : goal.returns-clause-size
returns-clause-size c =
    let name = ap (λ (xs : List ℕ). length xs) c.as_str.ensures in
    omega (
      arith,
      line_is c.args.styles.now c.args.posting.now,
      c.posting_status_len.ensures,
      name,
      c.amount_text_len.ensures.size,
    )

pub returns-clause-bound : goal.returns-clause-bound
returns-clause-bound c =
    let small = posting_small c.args.styles.now c.args.posting.now c.requires in
    let name = ap (λ (xs : List ℕ). length xs) c.as_str.ensures in
    omega (arith, small.0, small.1, c.posting_status_len.ensures, name, c.amount_text_len.ensures.bound)
