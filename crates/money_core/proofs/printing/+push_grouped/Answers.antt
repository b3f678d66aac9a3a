use Rattle.std.proofs.Common.{arith, ◌≡◌, ◌≤◌, [], ◌∷◌, ◌/◌, ◌%◌, take, length, refl}
use Rattle.money_core.specs.Printed.{places, grouped}
use Rattle.money_core.proofs.PrintedLemmas.{grouped_small, grouped_step, appended_twice, kept_front, taken_with_more}
use Rattle.money_core.proofs.PrintedLemmas.{on_err}
use Rattle.money_core.proofs.printing.+push_grouped.Goals as goal

pub returns-then-n-lt1000-clause-ok : goal.returns-then-n-lt1000-clause-ok
returns-then-n-lt1000-clause-ok t c =
    rw (grouped_small c.args.group c.args.n c.if-n-lt1000.true) c.push_decimal.ensures.ok

pub returns-in_err-push_places-clause-err : goal.returns-in_err-push_places-clause-err
returns-in_err-push_places-clause-err t c =
    on_err _ _ (let one : take (length c.args.out.now.items) c.push.new.self.items ≡ c.args.out.now.items =
    rw c.in_ok-push.ensures.items (taken_with_more _ _ _ _ c.in_ok-push_grouped.ensures.ok) in
    kept_front c.args.out.now.items c.push.new.self.items c.push_places.new.out.items _ refl one
    c.in_err-push_places.ensures.err)

pub returns-clause-ok : goal.returns-clause-ok
returns-clause-ok t c =
    let large : 1000 ≤ c.args.n = omega arith in
    let last = appended_twice c.push_grouped.new.out.items c.push.new.self.items c.push_places.new.out.items
    (c.args.group ∷ []) (places 3 (c.args.n % 1000)) c.in_ok-push.ensures.items c.in_ok-push_places.ensures.ok in
    rw (grouped_step c.args.group c.args.n large)
    (appended_twice c.args.out.now.items c.push_grouped.new.out.items c.push_places.new.out.items
    (grouped c.args.group (c.args.n / 1000)) (c.args.group ∷ places 3 (c.args.n % 1000))
    c.in_ok-push_grouped.ensures.ok last)
