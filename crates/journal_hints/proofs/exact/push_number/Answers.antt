use Rattle.std.proofs.Common.{arith, lit<}
use Rattle.std.proofs.Math.Nat.{one-le-pow}
use Rattle.std.proofs.lemmas.Result.{on_ok_weaker}
use Rattle.journal_hints.proofs.ExactLemmas.{exact_reads}
use Rattle.journal_hints.proofs.exact.push_number.Goals as goal

pub nonzero_div-whole : goal.nonzero_div-whole
nonzero_div-whole c = rw c.pow-below.ensures (one-le-pow c.from.result 10 (lit< tt))

pub nonzero_rem-number : goal.nonzero_rem-number
nonzero_rem-number c = rw c.pow-below.ensures (one-le-pow c.from.result 10 (lit< tt))

pub returns-clause-reads : goal.returns-clause-reads
returns-clause-reads c =
    on_ok_weaker c.push_decimals.result
    (λ e. exact_reads c.args.mark c.args.decimals c.args.number (omega (arith, c.ranges.number.fits)))
    c.push_decimals.ensures
