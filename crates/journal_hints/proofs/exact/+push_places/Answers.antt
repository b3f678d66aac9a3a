use Rattle.std.proofs.Common.{arith, ◌<◌, [], ◌∷◌, ◌/◌, ◌%◌, ◌+◌, ◌-◌, append-nil, refl}
use Rattle.money_core.specs.Printed.{places}
use Rattle.money_core.proofs.PrintedLemmas.{places_step, places_zero, appended_twice}
use Rattle.journal_hints.proofs.exact.+push_places.Goals as goal

pub returns : goal.returns
returns t c =
    let some : 0 < c.args.count = omega arith in
    rw (places_step c.args.count c.args.number some)
    (appended_twice c.args.out.now.items c.push_places.new.out.items c.push.new.self.items
    (places (c.args.count - 1) (c.args.number / 10)) ((48 + c.args.number % 10) ∷ []) c.in_ok-push_places.ensures
    c.in_ok-push.ensures.items)

pub returns-then-count-eq0 : goal.returns-then-count-eq0
returns-then-count-eq0 t c = rw (c.if-count-eq0.true, places_zero c.args.number) (rw append-nil refl)
