use Rattle.std.proofs.Common.{arith}
use Rattle.money_core.proofs.PrintedLemmas.{grouped_small}
use Rattle.money_core.proofs.LengthLemmas.{length_of_grouped}
use Rattle.money_core.proofs.length.+grouped_len.Goals as goal

pub returns-then-n-lt1000-clause-value : goal.returns-then-n-lt1000-clause-value
returns-then-n-lt1000-clause-value t c =
    λ group. rw (grouped_small group c.args.n c.if-n-lt1000.true) c.digits_len.ensures.value

pub returns-else-n-lt1000-clause-value : goal.returns-else-n-lt1000-clause-value
returns-else-n-lt1000-clause-value t c =
    λ group. rw (length_of_grouped group c.args.n (omega arith), ← c.grouped_len.ensures.value group) (omega arith)
