use Rattle.std.proofs.Common.{arith, ◌<◌, [], ◌∷◌, ◌/◌, ◌%◌, ◌+◌, ◌-◌, append-nil, refl}
use Rattle.money_core.specs.Printed.{places}
use Rattle.money_core.proofs.PrintedLemmas.{places_step, places_zero, appended_twice}
use Rattle.money_core.proofs.printing.+push_places.Goals as goal

pub returns-clause-ok : goal.returns-clause-ok
returns-clause-ok t c =
    let some : 0 < c.args.count = omega arith in
    rw (places_step c.args.count c.args.n some)
    (appended_twice c.args.out.now.items c.push_places.new.out.items c.push.new.self.items
    (places (c.args.count - 1) (c.args.n / 10)) ((48 + c.args.n % 10) ∷ []) c.in_ok-push_places.ensures.ok
    c.in_ok-push.ensures.items)

pub returns-then-count-eq0-clause-ok : goal.returns-then-count-eq0-clause-ok
returns-then-count-eq0-clause-ok t c =
    rw (c.if-count-eq0.true, places_zero c.args.n) (rw append-nil refl)
