use Rattle.std.proofs.Common.{arith, ◌≡◌, ◌<◌, ◌%◌, append-nil, refl}
use Rattle.money_core.proofs.PrintedLemmas.{places_zero}
use Rattle.journal_hints.proofs.ExactLemmas.{zero_dropped, digits_kept}
use Rattle.journal_hints.proofs.exact.+push_decimals.Goals as goal

pub returns-then-count-eq0 : goal.returns-then-count-eq0
returns-then-count-eq0 t c = rw (c.if-count-eq0.true, places_zero c.args.number) (rw append-nil refl)

pub returns-then-last-eq0 : goal.returns-then-last-eq0
returns-then-last-eq0 t c =
    let some : 0 < c.args.count = omega arith in
    let nought : c.args.number % 10 ≡ 0 = c.if-last-eq0.true in
    rw (zero_dropped c.args.count c.args.number some nought) c.push_decimals.ensures

pub returns : goal.returns
returns t c =
    let some : 0 < c.args.count = omega arith in
    rw (digits_kept c.args.count c.args.number some c.if-last-eq0.false) c.push_places.ensures
