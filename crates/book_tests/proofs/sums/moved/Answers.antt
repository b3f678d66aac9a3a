use Rattle.std.proofs.Common.{rules, w64, to_z, of_z, arith}
use Rattle.day_sums.specs.Points.{IsUpTo}
use Rattle.book_tests.proofs.SumLemmas.{small_up_to, same_up_to, raised_up_to}
use Rattle.book_tests.proofs.sums.moved.Goals as goal

pub raise_row-requires-clause-small : goal.raise_row-requires-clause-small
raise_row-requires-clause-small c = λ p.
    let l = c.if-limit-gt1000000000000000.false in
    small_up_to c.args.limit _ (omega arith) (same_up_to c.args.limit _ _ c.open_row.ensures.same c.requires _ _ p)

pub returns : goal.returns
returns c =
    let small : IsUpTo 32768 (to_z w64 (of_z w64 c.from.result)) = search rules in
    raised_up_to c.args.limit 32768 _ _ _ _ _ _ _ small c.raise_row.ensures.raised
    (same_up_to c.args.limit _ _ c.open_row.ensures.same c.requires)
